-- A schedule has at most one first break.
use Rattle.std.proofs.Common.{◌≡◌, ℕ, ◌<◌, ◌⊎◌, inl, inr, List, ◌≤ℤ◌, sym, ap, ap₂, subst, ◌∙◌, arith}
use Rattle.std.proofs.lemmas.Int.{ints}
use Rattle.std.proofs.lemmas.Bool.{cases_lt}
use Rattle.msp_class.proofs.IntegerRing.{≤ℤ_total, ≤ℤ_antisym}
use Rattle.msp_instance.specs.declared.Instance.{Instance}
use Rattle.msp_pieces.specs.declared.Piece.{Piece}
use Rattle.msp_pieces.specs.declared.Schedule.{Schedule}
use Rattle.msp_schedule.specs.declared.breaks.Break.{Break}
use Rattle.msp_schedule.specs.declared.breaks.Break.TheVariants.{Span, Place, Machine, Job, Release, Arc, Route, Work}
use Rattle.msp_pieces.specs.Piece.{piece_at}
use Rattle.msp_schedule.specs.Breaks.{IsLeast, IsLeastOperation, StandsAhead, Overlaps, IsFirstOverlap, IsBroken, IsFirstBreak, turn_of}

neither_less : (m n : ℕ) → ¬ (m < n) → ¬ (n < m) → m ≡ n
neither_less m n a b = elim (cases_lt m n) [ inl less ↦ absurd (a less) | inr more ↦ elim (cases_lt n m) [ inl less ↦ absurd (b less) | inr back ↦ omega (arith, more, back) ] ]

least_is_one : (bound : ℕ) (P : ℕ → Type 0) (k l : ℕ) → IsLeast bound P k → IsLeast bound P l → k ≡ l
least_is_one bound P k l a b = neither_less k l (λ less. b.least k less a.holds) (λ less. a.least l less b.holds)

least_operation_is_one : (i : Instance) (P : ℕ → ℕ → Type 0) (j o k q : ℕ) → IsLeastOperation i P j o → IsLeastOperation i P k q → (j ≡ k) × (o ≡ q)
least_operation_is_one i P j o k q a b =
    let jobs : j ≡ k = neither_less j k (λ less. b.job j o less a.holds) (λ less. a.job k q less b.holds) in
    let same : IsLeastOperation i P j q = subst (λ x. IsLeastOperation i P x q) (sym jobs) b in
    (jobs, neither_less o q (λ less. same.operation o less a.holds) (λ less. a.operation q less same.holds))

module _ (lane : Piece → ℕ) (ps : List Piece) where
  ahead_or_same : (k l : ℕ) → StandsAhead ps k l ⊎ (StandsAhead ps l k ⊎ (k ≡ l))
  ahead_or_same k l = elim (≤ℤ_total (piece_at ps k).from (piece_at ps l).from) [
    | inr later ↦ inr (inl (inl later))
    | inl early ↦ elim (≤ℤ_total (piece_at ps l).from (piece_at ps k).from) [
      | inr less ↦ inl (inl less)
      | inl back ↦ let same = ≤ℤ_antisym early back in elim (cases_lt k l) [
        | inl less ↦ inl (inr (same, less))
        | inr more ↦ elim (cases_lt l k) [ inl less ↦ inr (inl (inr (sym same, less))) | inr equal ↦ inr (inr (omega (arith, more, equal))) ]
      ]
    ]
  ]

  no_later : (k l : ℕ) → StandsAhead ps k l → (piece_at ps k).from ≤ℤ (piece_at ps l).from
  no_later k l (inl h) = omega (arith, ints, h)
  no_later k l (inr (e, h)) = omega (arith, ints, e)

  -- of two pieces that overlap the same later one, the one that stands ahead overlaps the other
  first_overlaps : (a b c : ℕ) → Overlaps lane ps a b → Overlaps lane ps c b → StandsAhead ps a c → Overlaps lane ps a c
  first_overlaps a b c x y ahead =
      let from = no_later c b y.ahead in
      record { one = x.one; other = y.one; same = x.same ∙ sym y.same; ahead = ahead; early = omega (arith, ints, from, x.early) }

  first_overlap_is_one : (a b c d : ℕ) → IsFirstOverlap lane ps a b → IsFirstOverlap lane ps c d → (a ≡ c) × (b ≡ d)
  first_overlap_is_one a b c d x y =
      let lanes : lane (piece_at ps b) ≡ lane (piece_at ps d) = omega (arith, x.least c d y.overlap, y.least a b x.overlap) in
      let seconds : b ≡ d = elim (ahead_or_same b d) [
        | inl ahead ↦ absurd (y.earliest a b x.overlap lanes ahead)
        | inr (inl ahead) ↦ absurd (x.earliest c d y.overlap (sym lanes) ahead)
        | inr (inr same) ↦ same
      ] in
      (firsts (subst (λ m. IsFirstOverlap lane ps c m) (sym seconds) y), seconds)
    where
      firsts : IsFirstOverlap lane ps c b → a ≡ c
      firsts z = elim (ahead_or_same a c) [
        | inl ahead ↦ absurd (x.earliest a c (first_overlaps a b c x.overlap z.overlap ahead) z.overlap.same z.overlap.ahead)
        | inr (inl ahead) ↦ absurd (x.earliest c a (first_overlaps c b a z.overlap x.overlap ahead) x.overlap.same x.overlap.ahead)
        | inr (inr same) ↦ same
      ]

module _ (i : Instance) (s : Schedule) where
  one_of_turn : (b c : Break) → turn_of b ≡ turn_of c → IsBroken i s b → IsBroken i s c → b ≡ c
  one_of_turn (Span a) (Span c) e x y = ap Span (least_is_one _ _ a c x y)
  one_of_turn (Place a) (Place c) e x y = ap Place (least_is_one _ _ a c x y)
  one_of_turn (Machine a b) (Machine c d) e x y = let f = first_overlap_is_one _ _ a b c d x y in ap₂ Machine f.0 f.1
  one_of_turn (Job a b) (Job c d) e x y = let f = first_overlap_is_one _ _ a b c d x y in ap₂ Job f.0 f.1
  one_of_turn (Release a) (Release c) e x y = ap Release (least_is_one _ _ a c x y)
  one_of_turn (Arc a) (Arc c) e x y = ap Arc (least_is_one _ _ a c x y)
  one_of_turn (Route a b) (Route c d) e x y = let f = least_operation_is_one i _ a b c d x.1 y.1 in ap₂ Route f.0 f.1
  one_of_turn (Work a b) (Work c d) e x y = let f = least_operation_is_one i _ a b c d x y in ap₂ Work f.0 f.1
  one_of_turn _ _ e x y = absurd (omega (arith, e))

  pub one_break : (b c : Break) → IsFirstBreak i s b → IsFirstBreak i s c → b ≡ c
  one_break b c x y =
      one_of_turn b c (neither_less (turn_of b) (turn_of c) (λ less. y.first b less x.broken) (λ less. x.first c less y.broken)) x.broken y.broken
