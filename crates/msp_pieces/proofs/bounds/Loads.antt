-- The law of machines and the law of lines: in shops an operation has its time on its own machine, and none of its job's other operations runs then.
use Rattle.std.proofs.Common.{◌≡◌, ◌≢◌, ℕ, ◌*◌, ◌-◌, ◌<◌, ◌≤◌, Bool, true, cond, eqb, List, length, get_or, filter, ℤ, pos, nat_abs, ◌*ℤ◌, ◌≤ℤ◌, All, sum_by, refl}
use Rattle.std.proofs.Common.{sym, ap, ap₂, subst, subst₂, ◌∙◌, arith, inl, inr}
use Rattle.std.specs.Prelude.{◌==◌, ◌&&◌}
use Rattle.std.proofs.lemmas.Bool.{eqb-true, cases_eq}
use Rattle.std.proofs.lemmas.Int.{ints}
use Rattle.std.proofs.lemmas.List.Elements.{All-filter, filter_passes}
use Rattle.msp_class.specs.declared.environments.EnvKind.{EnvKind}
use Rattle.msp_class.specs.declared.environments.EnvKind.TheVariants.{Unrelated, OpenShop, FlowShop, JobShop}
use Rattle.msp_class.specs.Env.{kind_of, is_shop_kind, is_shop}
use Rattle.msp_class.specs.Sums.{total_below}
use Rattle.msp_class.proofs.Sums.{cond-mono, cond-scale, sum_by-same, sum_by-filter, sum_by-by_key_test, sum_by-by_key_filter, total_below-mono, total_below-same, total_below-scale}
use Rattle.msp_class.proofs.IntegerRing.{natural, pos-le, pos-same, *ℤ-one}
use Rattle.msp_instance.specs.declared.Need.{Need}
use Rattle.msp_instance.specs.declared.Instance.{Instance}
use Rattle.msp_instance.specs.Instance.{no_need, no_job, job_at, need_at}
use Rattle.msp_pieces.specs.declared.Piece.{Piece}
use Rattle.msp_pieces.specs.declared.Schedule.{Schedule}
use Rattle.msp_pieces.specs.Piece.{length_of, job_of, start, finish, IsTimed}
use Rattle.msp_pieces.specs.Feasible.{Feasible, HasOperation, MayRun, total, whole_work}
use Rattle.msp_pieces.specs.Cost.{end_of}
use Rattle.msp_pieces.specs.Loads.{machine_load, job_length, LawOfMachines, LawOfLines}
use Rattle.msp_pieces.proofs.lists.Places.{sum_by-places, filter-both}
use Rattle.msp_pieces.specs.Intervals.{size_of}
use Rattle.msp_pieces.proofs.lists.Intervals.{apart_on_each, packed, last_of, greatest_by-bound}
use Rattle.msp_pieces.proofs.feasible.OneMachine.{unit_in_parts, pieces_timed, machines_apart, jobs_apart, total_lengths, last_end-is}
use Rattle.msp_pieces.proofs.feasible.LastEnds.{last_end-bound}
use Rattle.msp_pieces.proofs.feasible.Frames.{Fits-from_feasible, frame_of, rate_on, part, of_operation, map-same}

-- what feasibility reads of a shop
record IsShopKind (k : EnvKind) (i : Instance) : Type 0 where
  has : (j o : ℕ) → HasOperation k i j o → o < length (job_at i j).needs
  all : (j o : ℕ) → o < length (job_at i j).needs → (need_at i j o).time ≢ 0 → HasOperation k i j o
  may : (j o m : ℕ) → MayRun k i j o m → m ≡ (need_at i j o).machine
  rate : (j m : ℕ) → rate_on k i j m ≡ 1
  want : (j o : ℕ) → whole_work k i j o ≡ (need_at i j o).time
  other : k ≢ Unrelated

kind_reads : (k : EnvKind) → is_shop_kind k ≡ true → (i : Instance) → IsShopKind k i
kind_reads OpenShop e i = record { has = λ j o h. h.0; all = λ j o l n. (l, n); may = λ j o m h. h; rate = λ j m. refl; want = λ j o. refl; other = λ u. absurd (cc) }
kind_reads FlowShop e i = record { has = λ j o h. h.0; all = λ j o l n. (l, n); may = λ j o m h. h; rate = λ j m. refl; want = λ j o. refl; other = λ u. absurd (cc) }
kind_reads JobShop e i = record { has = λ j o h. h.0; all = λ j o l n. (l, n); may = λ j o m h. h; rate = λ j m. refl; want = λ j o. refl; other = λ u. absurd (cc) }
kind_reads _ e i = absurd (cc)

module _ (i : Instance) (s : Schedule) (shop : is_shop i.class.env ≡ true) (f : Feasible i s) where
  reads : IsShopKind (kind_of i.class.env) i
  reads = kind_reads (kind_of i.class.env) shop i

  abbrev unit : ℕ
  unit = nat_abs s.unit

  abbrev size : Piece → ℕ
  size = size_of start finish

  abbrev needs : ℕ → List Need
  needs j = (job_at i j).needs

  abbrev share : ℕ → List Piece
  share j = filter (λ p. eqb p.job j) s.pieces

  -- an operation has had its time
  module _ (j o : ℕ) (l : j < length i.jobs) (m : o < length (needs j)) where
    abbrev own : List Piece
    own = of_operation s.pieces j o

    full : (need_at i j o).time ≢ 0 → sum_by size own ≡ unit * (need_at i j o).time
    full n = pos-same (
        sym (total_lengths own (All-filter (λ p. (p.job == j) && (p.op == o)) IsTimed s.pieces (pieces_timed i s f)))
        ∙ ap total (map-same length_of (part (frame_of i)) own (λ k d b. let p = get_or own k d in sym (ap (λ r. length_of p *ℤ pos r) (reads.rate p.job p.machine) ∙ *ℤ-one (length_of p))))
        ∙ ((Fits-from_feasible i s (record { unrelated = λ e. absurd (reads.other e) }) f).work j o l (reads.all j o m n)).sum
        ∙ ap₂ (λ u t. u *ℤ pos t) (unit_in_parts i s f) (reads.want j o))

    operation_is_done : unit * (need_at i j o).time ≤ sum_by size (filter (λ p. eqb p.op o) (share j))
    operation_is_done = elim (cases_eq (need_at i j o).time 0) [
      | inl e ↦ omega (arith, ap (λ t. unit * t) e)
      | inr n ↦ omega (arith, full n, ap (sum_by size) (filter-both (λ p. eqb p.job j) (λ p. eqb p.op o) s.pieces))
    ]

  of_share : (j : ℕ) → All (λ p. p.job ≡ j) (share j)
  of_share j k d l = eqb-true _ _ (filter_passes (λ p. eqb p.job j) s.pieces k d l)

  operations_inside : (j : ℕ) → All (λ p. p.op < length (needs j)) (share j)
  operations_inside j k d l = subst (λ n. (get_or (share j) k d).op < length (needs n)) (of_share j k d l)
      (All-filter (λ p. eqb p.job j) (λ p. p.op < length (needs p.job)) s.pieces (λ a b c. let p = get_or s.pieces a b in reads.has p.job p.op (f.place a b c).operation) k d l)

  own_machines : (j : ℕ) → All (λ p. p.machine ≡ (need_at i j p.op).machine) (share j)
  own_machines j k d l = subst (λ n. (get_or (share j) k d).machine ≡ (need_at i n (get_or (share j) k d).op).machine) (of_share j k d l)
      (All-filter (λ p. eqb p.job j) (λ p. p.machine ≡ (need_at i p.job p.op).machine) s.pieces (λ a b c. let p = get_or s.pieces a b in reads.may p.job p.op p.machine (f.place a b c).machine) k d l)

  -- and so have those of a job that pass a test
  operations_are_done : (test : ℕ → Bool) (j : ℕ) → j < length i.jobs
      → unit * total_below (length (needs j)) (λ o. cond (test o) (need_at i j o).time 0) ≤ sum_by (λ p. cond (test p.op) (size p) 0) (share j)
  operations_are_done test j l =
      let n = length (needs j) in
      let done = λ (o : ℕ). cond (test o) (sum_by size (filter (λ p. eqb p.op o) (share j))) 0 in
      omega (
        arith,
        total_below-scale n unit (λ o. cond (test o) (need_at i j o).time 0),
        total_below-mono n (λ o. unit * cond (test o) (need_at i j o).time 0)
            done (λ o m. subst (λ x. x ≤ done o) (cond-scale (test o) unit (need_at i j o).time) (cond-mono (test o) (operation_is_done j o l m))),
        sum_by-by_key_test (λ p. p.op) size test n (share j) (operations_inside j),
      )

  -- ---- a job
  pub job_is_worked : (j : ℕ) → j < length i.jobs → unit * job_length i j ≤ sum_by size (share j)
  job_is_worked j l = subst (λ x. unit * x ≤ sum_by size (share j)) (sym (sum_by-places (λ n. n.time) (needs j) no_need)) (operations_are_done (λ _. true) j l)

  line : (j : ℕ) → j < length i.jobs → (s.unit *ℤ pos (job_length i j)) ≤ℤ end_of s j
  line j l = subst₂ (λ x y. x ≤ℤ y) (sym (ap (λ u. u *ℤ pos (job_length i j)) (unit_in_parts i s f)))
      (sym (last_end-is s.pieces j (pieces_timed i s f))) (pos-le (omega (arith, job_is_worked j l, short)))
    where
      short : sum_by size (share j) ≤ last_of job_of finish s.pieces j - 0
      short = packed start finish 0 (last_of job_of finish s.pieces j)
          (share j) (apart_on_each job_of start finish j s.pieces (jobs_apart i s f)) (λ k d b. (omega arith, greatest_by-bound finish (share j) k d b))

  pub shop_machines_below : All (λ j. All (λ n. n.machine < i.machines) j.needs) i.jobs → All (λ p. p.machine < i.machines) s.pieces
  shop_machines_below on k d l =
      let p = get_or s.pieces k d in
      let place = f.place k d l in
      subst (λ m. m < i.machines) (sym (reads.may p.job p.op p.machine place.machine)) (on p.job no_job place.job p.op no_need (reads.has p.job p.op place.operation))

  -- ---- a machine
  module _ (m : ℕ) where
    abbrev on : Piece → ℕ
    on p = cond (eqb p.machine m) (size p) 0

    abbrev load : ℕ → ℕ
    load j = total_below (length (needs j)) (λ o. cond (eqb (need_at i j o).machine m) (need_at i j o).time 0)

    load_is : machine_load i m ≡ total_below (length i.jobs) load
    load_is =
        sum_by-places (λ j. sum_by (λ n. cond (eqb n.machine m) n.time 0) j.needs) i.jobs no_job
        ∙ total_below-same (length i.jobs) _ load (λ j l. sum_by-places (λ n. cond (eqb n.machine m) n.time 0) (needs j) no_need)

    job_is_done : (j : ℕ) → j < length i.jobs → unit * load j ≤ sum_by on (share j)
    job_is_done j l = subst (λ x. unit * load j ≤ x)
        (sum_by-same (λ p. cond (eqb (need_at i j p.op).machine m) (size p) 0) on (share j) (λ k d b. let p = get_or (share j) k d in ap (λ x. cond (eqb x m) (size p) 0) (sym (own_machines j k d b))))
        (operations_are_done (λ o. eqb (need_at i j o).machine m) j l)

    jobs_are_done : unit * machine_load i m ≤ sum_by size (filter (λ p. eqb p.machine m) s.pieces)
    jobs_are_done = omega (
      arith,
      ap (λ x. unit * x) load_is,
      total_below-scale (length i.jobs) unit load,
      total_below-mono (length i.jobs) (λ j. unit * load j) (λ j. sum_by on (share j)) job_is_done,
      sum_by-by_key_filter job_of on (length i.jobs) s.pieces (λ k d l. (f.place k d l).job),
      sum_by-filter size (λ p. eqb p.machine m) s.pieces,
    )

    machine_is_done : (c : ℕ) → All (λ p. finish p ≤ c) s.pieces → unit * machine_load i m ≤ c
    machine_is_done c ends = omega (
      arith,
      jobs_are_done,
      packed start finish 0 c (filter (λ p. eqb p.machine m) s.pieces)
          (apart_on_each (λ p. p.machine) start finish m s.pieces (machines_apart i s f)) (λ k d l. (omega arith, All-filter (λ p. eqb p.machine m) (λ p. finish p ≤ c) s.pieces ends k d l)),
    )

    machine : (end : ℤ) → pos 0 ≤ℤ end → ((j : ℕ) → j < length i.jobs → end_of s j ≤ℤ end) → (s.unit *ℤ pos (machine_load i m)) ≤ℤ end
    machine end b ends = subst₂ (λ x y. x ≤ℤ y) (sym (ap (λ u. u *ℤ pos (machine_load i m)) (unit_in_parts i s f))) (sym (natural end b))
        (pos-le (machine_is_done (nat_abs end)
        (λ k d l. let t = pieces_timed i s f k d l in omega (arith, ints, t.to, b, last_end-bound s.pieces k d l, ends (get_or s.pieces k d).job (f.place k d l).job))))

pub law_of_machines : LawOfMachines
law_of_machines i s m end shop f b ends = machine i s shop f m end b ends

pub law_of_lines : LawOfLines
law_of_lines i s j shop f l = line i s shop f j l
