-- A schedule is decided condition after condition: `xs`, `ys` and `u` are its pieces, the arcs and its unit as the calls take them.
use Rattle.std.proofs.Common.{◌≡◌, ℕ, List, All, AllPairs, ℤ, ◌<ℤ◌, sym, subst}
use Rattle.msp_instance.specs.declared.Arc.{Arc as ArcValue}
use Rattle.msp_instance.specs.declared.Instance.{Instance}
use Rattle.msp_pieces.specs.declared.Piece.{Piece}
use Rattle.msp_pieces.specs.declared.Schedule.{Schedule}
use Rattle.msp_schedule.specs.declared.breaks.Break.{Break}
use Rattle.msp_schedule.specs.declared.breaks.Break.TheVariants.{Span, Place, Machine, Job, Release, Arc, Route, Work}
use Rattle.msp_pieces.specs.Piece.{IsApart}
use Rattle.msp_pieces.specs.Feasible.{Feasible, HasPlace}
use Rattle.msp_pieces.specs.Within.{Within}
use Rattle.msp_schedule.specs.Works.{AreWorked, IsFirstUnworked}
use Rattle.msp_schedule.specs.Breaks.{IsEmpty, IsEarly, IsReleased, IsFirstPiece, IsFirstOverlap, KeepsArc, IsFirstLostArc, KeepsRoutes, IsFirstOutOfRoute, HasRoutes, IsFirstBreak}
use Rattle.msp_schedule.proofs.judging.FirstBreaks.{KeepsUpTo, first_of, feasible_if_kept, with_pieces, same_schedule, up_to_none, up_to_next}

module _ {i : Instance} {s : Schedule} {xs : List Piece} (same : xs ≡ s.pieces) where
  first_is : (b : Break) → IsFirstBreak i (with_pieces s xs) b → IsFirstBreak i s b
  first_is b h = subst (λ v. IsFirstBreak i v b) (same_schedule s xs same) h

  pub first_span : {k : ℕ} → IsFirstPiece IsEmpty xs k → IsFirstBreak i s (Span k)
  first_span {k} h = first_is (Span k) (first_of i (with_pieces s xs) (Span k) (up_to_none i (with_pieces s xs)) h)

  module _ (span : All (λ p. p.from <ℤ p.to) xs) where
    abbrev spans : KeepsUpTo 1 i (with_pieces s xs)
    spans = up_to_next i (with_pieces s xs) 0 (up_to_none i (with_pieces s xs)) span

    pub first_place : {k : ℕ} → IsFirstPiece (λ p. ¬ HasPlace i p) xs k → IsFirstBreak i s (Place k)
    first_place {k} h = first_is (Place k) (first_of i (with_pieces s xs) (Place k) spans h)

    module _ (place : All (HasPlace i) xs) where
      abbrev places : KeepsUpTo 2 i (with_pieces s xs)
      places = up_to_next i (with_pieces s xs) 1 spans place

      pub first_machine : {k l : ℕ} → IsFirstOverlap (λ p. p.machine) xs k l → IsFirstBreak i s (Machine k l)
      first_machine {k} {l} h = first_is (Machine k l) (first_of i (with_pieces s xs) (Machine k l) places h)

      module _ (machine : AllPairs (λ p q. p.machine ≡ q.machine → IsApart p q) xs) where
        abbrev machines : KeepsUpTo 3 i (with_pieces s xs)
        machines = up_to_next i (with_pieces s xs) 2 places machine

        pub first_job : {k l : ℕ} → IsFirstOverlap (λ p. p.job) xs k l → IsFirstBreak i s (Job k l)
        first_job {k} {l} h = first_is (Job k l) (first_of i (with_pieces s xs) (Job k l) machines h)

        module _ (job : AllPairs (λ p q. p.job ≡ q.job → IsApart p q) xs) {u : ℤ} (unit : u ≡ s.unit) where
          abbrev jobs : KeepsUpTo 4 i (with_pieces s xs)
          jobs = up_to_next i (with_pieces s xs) 3 machines job

          pub first_release : {k : ℕ} → IsFirstPiece (IsEarly i u) xs k → IsFirstBreak i s (Release k)
          first_release {k} h = first_is (Release k) (first_of i (with_pieces s xs) (Release k) jobs (subst (λ v. IsFirstPiece (IsEarly i v) xs k) unit h))

          module _ (release : All (IsReleased i u) xs) {ys : List ArcValue} (listed : ys ≡ i.arcs) where
            abbrev releases : KeepsUpTo 5 i (with_pieces s xs)
            releases = up_to_next i (with_pieces s xs) 4 jobs (subst (λ v. All (IsReleased i v) xs) unit release)

            pub first_arc : {k : ℕ} → IsFirstLostArc xs ys k → IsFirstBreak i s (Arc k)
            first_arc {k} h = first_is (Arc k) (first_of i (with_pieces s xs) (Arc k) releases (subst (λ l. IsFirstLostArc xs l k) listed h))

            module _ (arc : All (KeepsArc xs) ys) where
              abbrev arcs : KeepsUpTo 6 i (with_pieces s xs)
              arcs = up_to_next i (with_pieces s xs) 5 releases (subst (All (KeepsArc xs)) listed arc)

              pub first_route : {j o : ℕ} → HasRoutes i × IsFirstOutOfRoute i xs j o → IsFirstBreak i s (Route j o)
              first_route {j} {o} h = first_is (Route j o) (first_of i (with_pieces s xs) (Route j o) arcs h)

              module _ (route : HasRoutes i → KeepsRoutes i xs) where
                abbrev routes : KeepsUpTo 7 i (with_pieces s xs)
                routes = up_to_next i (with_pieces s xs) 6 arcs route

                pub first_work : {j o : ℕ} → IsFirstUnworked i u xs j o → IsFirstBreak i s (Work j o)
                first_work {j} {o} h = first_is (Work j o) (first_of i (with_pieces s xs) (Work j o) routes (subst (λ v. IsFirstUnworked i v xs j o) unit h))

                pub none_broken : AreWorked i u xs → Within i s → Feasible i s
                none_broken h w = subst (Feasible i) (same_schedule s xs same)
                    (feasible_if_kept i (with_pieces s xs) (subst (Within i) (sym (same_schedule s xs same)) w) (up_to_next i (with_pieces s xs) 7 routes (subst (λ v. AreWorked i v xs) unit h)))
