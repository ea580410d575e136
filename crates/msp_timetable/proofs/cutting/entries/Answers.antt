use Rattle.std.proofs.Common.{◌≡◌, ℕ, ◌+◌, ◌<◌, List, [], ◌∷◌, ◌++◌, Bool, cond, ltb, inl, inr, length, ap, sym, ◌∙◌, arith}
use Rattle.std.proofs.Math.Seq.{get_or-append_seam}
use Rattle.std.proofs.lemmas.Bool.{le-ltb, lt-ltb}
use Rattle.std.proofs.lemmas.List.{get_or_append_left, get_or_default, length-append}
use Rattle.msp_class.proofs.Cases.{same_or_not}
use Rattle.msp_assign.specs.Passing.{at}
use Rattle.msp_timetable.specs.Square.{cell_at, entry}
use Rattle.msp_timetable.proofs.cutting.entries.Goals as goal
use Rattle.msp_timetable.proofs.cutting.entries.Goals.{then-index-gt0+in_ok-push, else-index-gt0+in_ok-push-2}

-- one entry more
next : (f : ℕ → ℕ) (row v : ℕ) (xs ys : List ℕ) → length xs ≡ row → ((r : ℕ) → r < row → at xs r ≡ f r) → v ≡ f row → ys ≡ xs ++ v ∷ []
    → (length ys ≡ row + 1) × ((r : ℕ) → r < row + 1 → at ys r ≡ f r)
next f row v xs ys size each is e = (
  ap length e ∙ length-append xs (v ∷ []) ∙ ap (λ n. n + 1) size,
  λ r l. elim (same_or_not r row) [
    | inl q ↦ ap (λ zs. at zs r) e ∙ ap (at (xs ++ v ∷ [])) (q ∙ sym size) ∙ get_or-append_seam xs v [] 0 ∙ is ∙ ap f (sym q)
    | inr n ↦ ap (λ zs. at zs r) e ∙ get_or_append_left xs (v ∷ []) 0 r (omega (arith, size)) ∙ each r (omega arith)
  ],
)

pub loop-row-preserved : goal.loop-row-preserved
loop-row-preserved c =
    let s = c.args.square.now in
    let column = at c.args.columns.now c.loop-row.row in
    let held = cell_at s.size s.given.items c.loop-row.row column in
    let cell : c.index.result.now ≡ held =
    c.index.ensures ∙ get_or_default s.given.items c.place-at.result c.index.result.now 0 (omega (arith, c.requires.square.given, c.place-at.ensures.inside))
    ∙ ap (at s.given.items) c.place-at.ensures.place in
    let row_is = λ (t : Bool). cond t column c.args.none in
    elim c.if-index-gt0.branch [
      | then-index-gt0+in_ok-push w ↦
          let is : column ≡ row_is (ltb 0 held) = sym (ap row_is (lt-ltb 0 held (omega (arith, cell, w.if-index-gt0.true)))) in
          let more = next (entry s c.args.none c.args.columns.now) _ _ _ _ c.loop-row.invariant.size c.loop-row.invariant.each is w.in_ok-push.ensures.items in
          rw w.entries-is (record { size = more.0; each = more.1 })
      | else-index-gt0+in_ok-push-2 w ↦
          let is : c.args.none ≡ row_is (ltb 0 held) = sym (ap row_is (le-ltb 0 held (omega (arith, cell, w.if-index-gt0.false)))) in
          let more = next (entry s c.args.none c.args.columns.now) _ _ _ _ c.loop-row.invariant.size c.loop-row.invariant.each is w.in_ok-push-2.ensures.items in
          rw w.entries-is (record { size = more.0; each = more.1 })
    ]
