-- What is found in pieces that are sorted by job holds of them in the order in which they were given.
use Rattle.std.proofs.Common.{◌≡◌, ℕ, ◌<◌, inl, inr, List, length, All, IsPermutation, Option, Some, None, ℤ, refl, sym, subst, arith}
use Rattle.std.specs.Prelude.{IfSome}
use Rattle.std.proofs.lemmas.List.Sorted.{All-permutation, length_permutation, IsPermutation-sym}
use Rattle.msp_instance.specs.declared.Instance.{Instance}
use Rattle.msp_instance.specs.Instance.{job_at}
use Rattle.msp_pieces.specs.declared.Piece.{Piece}
use Rattle.msp_pieces.specs.Feasible.{HasOperation, HasPlace}
use Rattle.msp_pieces.specs.Piece.{IsBefore}
use Rattle.msp_pieces.specs.Within.{IsMoment}
use Rattle.msp_schedule.specs.Breaks.{KeepsRoute, HasRoutes, IsLeastOperation}
use Rattle.msp_schedule.specs.Works.{AreMeasurable, GetsWorkAmong, LacksWorkAmong, IsWorked}
use Rattle.msp_pieces.proofs.lists.Permuted.{twice, work_permuted}

-- the operation of a piece that has a place is one of its job's needs, where operations have a route
routed_inside : (i : Instance) → HasRoutes i → (p : Piece) → HasPlace i p → p.op < length (job_at i p.job).needs
routed_inside i (inl e) p h = (subst (λ k. HasOperation k i p.job p.op) e h.operation).0
routed_inside i (inr e) p h = (subst (λ k. HasOperation k i p.job p.op) e h.operation).0

module _ (xs ys zs : List Piece) (h : IsPermutation xs ys) (e : zs ≡ ys) where
  forth : IsPermutation xs zs
  forth = subst (IsPermutation xs) (sym e) h

  back : IsPermutation zs xs
  back = IsPermutation-sym xs zs forth

  pub of_sorted : (P : Piece → Type 0) → All P xs → All P zs
  of_sorted P = All-permutation P xs zs forth

  pub measured_sorted : (i : Instance) → AreMeasurable i xs → AreMeasurable i zs
  measured_sorted i h = record {
    inner = h.inner;
    checked = h.checked;
    few = omega (arith, length_permutation xs zs forth, h.few);
    place = of_sorted (HasPlace i) h.place;
    moments = of_sorted (λ p. IsMoment p.from × IsMoment p.to) h.moments;
  }

  pub inside_sorted : (i : Instance) → HasRoutes i → All (HasPlace i) xs → All (λ p. p.op < length (job_at i p.job).needs) zs
  inside_sorted i routes place k d l = routed_inside i routes _ (of_sorted (HasPlace i) place k d l)

  route_forth : (j o : ℕ) → KeepsRoute xs j o → KeepsRoute zs j o
  route_forth j o = twice (λ p q. p.job ≡ j → q.job ≡ j → p.op < o → q.op ≡ o → IsBefore p q) xs zs forth

  route_back : (j o : ℕ) → KeepsRoute zs j o → KeepsRoute xs j o
  route_back j o = twice (λ p q. p.job ≡ j → q.job ≡ j → p.op < o → q.op ≡ o → IsBefore p q) zs xs back

  pub routes_sorted : (n : ℕ) → ((j o : ℕ) → j < n → KeepsRoute zs j o) → (j o : ℕ) → j < n → KeepsRoute xs j o
  routes_sorted n all j o l = route_back j o (all j o l)

  pub route_sorted : (i : Instance) (r : Option (ℕ × ℕ))
      → IfSome r (λ at. IsLeastOperation i (λ j o. ¬ KeepsRoute zs j o) at.0 at.1) → IfSome r (λ at. IsLeastOperation i (λ j o. ¬ KeepsRoute xs j o) at.0 at.1)
  route_sorted i None f = tt
  route_sorted i (Some (j, o)) f = record {
    inside = f.inside;
    holds = λ k. f.holds (route_forth j o k);
    job = λ k q l n. f.job k q l (λ r. n (route_back k q r));
    operation = λ q l n. f.operation q l (λ r. n (route_back j q r));
  }

  gets_forth : (i : Instance) (u : ℤ) (j o : ℕ) → GetsWorkAmong i u xs j o → GetsWorkAmong i u zs j o
  gets_forth i u j o g = work_permuted i (record { unit = u; pieces = xs }) (record { unit = u; pieces = zs }) refl forth j o i.class.cut g

  gets_back : (i : Instance) (u : ℤ) (j o : ℕ) → GetsWorkAmong i u zs j o → GetsWorkAmong i u xs j o
  gets_back i u j o g = work_permuted i (record { unit = u; pieces = zs }) (record { unit = u; pieces = xs }) refl back j o i.class.cut g

  pub works_sorted : (i : Instance) (u v : ℤ) → v ≡ u → ((j o : ℕ) → j < length i.jobs → IsWorked i v zs j o) → (j o : ℕ) → j < length i.jobs → IsWorked i u xs j o
  works_sorted i u v ev all j o l = subst (λ w. IsWorked i w xs j o) ev (λ op. gets_back i v j o (all j o l op))

  lacks_forth : (i : Instance) (u : ℤ) (j o : ℕ) → LacksWorkAmong i u xs j o → LacksWorkAmong i u zs j o
  lacks_forth i u j o (op, n) = (op, λ g. n (gets_back i u j o g))

  pub work_sorted : (i : Instance) (u v : ℤ) (r : Option (ℕ × ℕ))
      → v ≡ u → IfSome r (λ at. IsLeastOperation i (LacksWorkAmong i v zs) at.0 at.1) → IfSome r (λ at. IsLeastOperation i (LacksWorkAmong i u xs) at.0 at.1)
  work_sorted i u v None ev f = tt
  work_sorted i u v (Some (j, o)) ev f = subst (λ w. IsLeastOperation i (LacksWorkAmong i w xs) j o) ev (record {
    inside = f.inside;
    holds = (f.holds.0, λ g. f.holds.1 (gets_forth i v j o g));
    job = λ k q l n. f.job k q l (lacks_forth i v k q n);
    operation = λ q l n. f.operation q l (lacks_forth i v j q n);
  })
