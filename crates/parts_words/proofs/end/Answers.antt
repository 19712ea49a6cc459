-- `parts_words::end` meets its contract: the lists first, then the number that the state holds.
use mathlib.Core.List.{[]}
use mathlib.Core.Path.{sym, ap, ◌∙◌}
use Rattle.parts_words.specs.Calls.{Lists, standing_of, lists}
use Rattle.parts_words.proofs.Fitting.{own, on, code_on, host_stays, told_again}
use Rattle.parts_words.proofs.end.Goals as goal

pub arrival_at-a-requires : goal.arrival_at-a-requires
arrival_at-a-requires c = (own (lists c.args.state.now c.args.records.now c.args.answers.now c.args.progress.now) (sym c.fit-fits.ensures ∙ c.if-fits.true)).0

-- what the state itself answers
pub returns-then-stands-ne0 : goal.returns-then-stands-ne0
returns-then-stands-ne0 c =
    let a = c.args in
    let l = lists a.state.now a.records.now a.answers.now a.progress.now in
    let e = c.standing-stands.ensures ∙ ap standing_of c.arrival_at-a.ensures in
    let t = sym c.fit-fits.ensures ∙ c.if-fits.true in
    let h = sym (host_stays l t (λ z. c.if-stands-ne0.true (e ∙ z)) []).1 in
    record { value = e ∙ sym (told_again l t (λ z. c.if-stands-ne0.true (e ∙ z)) []).1; state_after = ap (λ (x : Lists). x.state) h; progress_after = ap (λ (x : Lists). x.progress) h }

pub put_told-requires : goal.put_told-requires
put_told-requires c =
    let a = c.args in
    let l = lists a.state.now a.records.now a.answers.now a.progress.now in
    own l (sym c.fit-fits.ensures ∙ c.if-fits.true)

pub returns-then-fits : goal.returns-then-fits
returns-then-fits c =
    let a = c.args in
    let l = lists a.state.now a.records.now a.answers.now a.progress.now in
    let t = sym c.fit-fits.ensures ∙ c.if-fits.true in
    let p = c.put_told.ensures in
    let b = c.arrival_at-a.ensures in
    let e = c.end-t.ensures in
    let z = sym (c.standing-stands.ensures ∙ ap standing_of b) ∙ c.if-stands-ne0.false in
    let g = on l t z in
    let o = (code_on l t z []).1 in
    record { value = rw (o, p.value, e, b); state_after = rw (g, p.state_after, e, b); progress_after = rw (g, p.progress_after, e, b) }

pub returns : goal.returns
returns c = let t = sym c.fit-fits.ensures ∙ c.if-fits.false in record { value = rw t; state_after = rw t; progress_after = rw t }
