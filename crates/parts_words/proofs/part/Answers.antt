-- `parts_words::part` meets its contract: the lists first, then the number that the state holds.
use mathlib.Core.Path.{sym, ap, ◌∙◌}
use Rattle.parts_words.specs.Calls.{Lists, standing_of, lists}
use Rattle.parts_words.proofs.Fitting.{own, on, code_on, host_stays, told_again}
use Rattle.parts_words.proofs.part.Goals as goal

pub arrival_at-came-requires : goal.arrival_at-came-requires
arrival_at-came-requires c = (own (lists c.args.state.now c.args.records.now c.args.answers.now c.args.progress.now) (sym c.fit-fits.ensures ∙ c.if-fits.true)).0

-- what the state itself answers
pub returns-then-n-ne0 : goal.returns-then-n-ne0
returns-then-n-ne0 c =
    let a = c.args in
    let l = lists a.state.now a.records.now a.answers.now a.progress.now in
    let e = c.standing-n.ensures ∙ ap standing_of c.arrival_at-came.ensures in
    let t = sym c.fit-fits.ensures ∙ c.if-fits.true in
    let h = sym (host_stays l t (λ z. c.if-n-ne0.true (e ∙ z)) a.bytes.now).0 in
    record { value = e ∙ sym (told_again l t (λ z. c.if-n-ne0.true (e ∙ z)) a.bytes.now).0; state_after = ap (λ (x : Lists). x.state) h; records_after = ap (λ (x : Lists). x.records) h; answers_after = ap (λ (x : Lists). x.answers) h; progress_after = ap (λ (x : Lists). x.progress) h }

pub put_told-requires : goal.put_told-requires
put_told-requires c =
    let a = c.args in
    let l = lists a.state.now a.records.now a.answers.now a.progress.now in
    own l (sym c.fit-fits.ensures ∙ c.if-fits.true)

pub returns-then-fits : goal.returns-then-fits
returns-then-fits c =
    let a = c.args in
    let l = lists a.state.now a.records.now a.answers.now a.progress.now in
    let t = sym c.fit-fits.ensures ∙ c.if-fits.true in
    let p = c.put_told.ensures in
    let b = c.arrival_at-came.ensures in
    let e = c.part-t.ensures in
    let z = sym (c.standing-n.ensures ∙ ap standing_of b) ∙ c.if-n-ne0.false in
    let g = on l t z in
    let o = (code_on l t z a.bytes.now).0 in
    record { value = rw (o, p.value, e.value, b); state_after = rw (g, p.state_after, e.value, b); records_after = rw (g, e.records_after, b); answers_after = rw (g, e.answers_after, b); progress_after = rw (g, p.progress_after, e.value, b) }

pub returns : goal.returns
returns c = let t = sym c.fit-fits.ensures ∙ c.if-fits.false in record { value = rw t; state_after = rw t; records_after = rw t; answers_after = rw t; progress_after = rw t }
