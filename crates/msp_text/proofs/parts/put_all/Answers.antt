-- The goals of `put_all` that are proved by lemmas.
use Rattle.std.proofs.Common.{◌≡◌, ℕ, ◌+◌, ◌<◌, true, false, List, ◌++◌, Result, Ok, Err, length, get_or, take, take_at, sym, ap, ◌∙◌, append_assoc}
use Rattle.std.specs.Prelude.{OnOk, OnErr}
use Rattle.std.specs.Result.{is_err}
use Rattle.msp_class.proofs.Lists.{flat_map-take_more}
use Rattle.msp_text.specs.declared.parts.Part.{Part}
use Rattle.msp_text.specs.Parts.{part_text, parts_text}
use Rattle.msp_text.proofs.parts.put_all.Goals as goal

was_put : {A E : Type 0} (r : Result A E) {P : Type 0} → is_err r ≡ false → OnOk r P → P
was_put (Ok x) e h = h
was_put (Err x) e h = absurd cc

was_refused : {A E : Type 0} (r : Result A E) {P : Type 0} → is_err r ≡ true → OnErr r P → P
was_refused (Ok x) e h = absurd cc
was_refused (Err x) e h = h

-- one part more
part_put : (parts : List Part) (k : ℕ) (d : Part) (o p q : List ℕ)
    → k < length parts → p ≡ o ++ parts_text (take k parts) → q ≡ p ++ part_text (get_or parts k d) → q ≡ o ++ parts_text (take (k + 1) parts)
part_put parts k d o p q l e f =
    f ∙ ap (λ x. x ++ part_text (get_or parts k d)) e ∙ append_assoc o (parts_text (take k parts)) (part_text (get_or parts k d))
    ∙ ap (λ x. o ++ x) (sym (flat_map-take_more part_text parts k d l))

pub loop-part-preserved : goal.loop-part-preserved
loop-part-preserved c = (
  part_put c.args.parts.now c.loop-part.part-index _ c.args.out.now.items c.loop-part.out.items c.put_part.new.out.items c.loop-part-test.true c.loop-part.invariant.0
      (was_put c.put_part.result (sym c.is_err.ensures.value ∙ c.if-is_err.false) c.put_part.ensures.added),
  c.loop-part.invariant.1,
)

pub returns-then-is_err-clause-refused : goal.returns-then-is_err-clause-refused
returns-then-is_err-clause-refused c =
    let same = was_refused c.put_part.result (sym c.is_err.ensures.value ∙ c.if-is_err.true) c.put_part.ensures.refused in
    c.truncate.ensures.items ∙ ap (take c.len-length.result) (same ∙ c.loop-part.invariant.0) ∙ take_at c.args.out.now.items _ c.len-length.result (sym c.loop-part.invariant.1)
