-- What the calls of a sheet in parts leave of the lists that a host lends them (RULES, sections 6 and 7).
use Rattle.std.specs.Prelude.{List, [], ◌∷◌, ℕ}
use Rattle.parts_words.specs.Calls.{lists, begin_code, begin_state, part_code, part_lists, end_code, end_lists}
use Rattle.host_lists.specs.Called.{Called, called}

unfoldable pub begin_by : List ℕ → Called
begin_by state = called (begin_code state) (begin_state state ∷ [])

unfoldable pub part_by : List ℕ → List ℕ → List ℕ → List ℕ → List ℕ → Called
part_by bytes state xs out p =
    let c = lists state xs out p in
    let d = part_lists c bytes in
    called (part_code c bytes) (d.state ∷ d.records ∷ d.answers ∷ d.progress ∷ [])

-- records and answers are only looked at
unfoldable pub end_by : List ℕ → List ℕ → List ℕ → List ℕ → Called
end_by xs out state p =
    let c = lists state xs out p in
    called (end_code c) ((end_lists c).state ∷ (end_lists c).progress ∷ [])
