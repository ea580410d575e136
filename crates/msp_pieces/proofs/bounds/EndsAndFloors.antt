-- The law of ends and the law of floors.
use Rattle.std.proofs.Common.{◌≡◌, ℕ, zero, suc, ◌*◌, ◌/◌, ◌-◌, ◌<◌, ◌≤◌, Bool, true, false, cond, List, [], ◌∷◌, length, get_or, map, ℤ, pos, nat_abs, ◌+ℤ◌}
use Rattle.std.proofs.Common.{◌*ℤ◌, ◌≤ℤ◌, All, Contains, inl, refl, sym, ap, ap₂, subst, subst₂, ◌∙◌, arith, le_trans}
use Rattle.std.specs.Prelude.{◌==◌, ◌&&◌}
use Rattle.std.proofs.lemmas.Bool.{eq-eqb}
use Rattle.std.proofs.lemmas.Int.{ints}
use Rattle.std.proofs.lemmas.Nat.{le-div}
use Rattle.std.proofs.Math.Nat.{add_comm, mul-pos, div-mul-le_self, mul-div-le, zero-div, add-div_left}
use Rattle.std.proofs.lemmas.List.Elements.{All-contains_itself, Contains-get_or}
use native.Mathlib.Nat.{mul-le-mul_left}
use Rattle.msp_class.specs.declared.environments.EnvKind.TheVariants.{Identical}
use Rattle.msp_class.specs.Env.{kind_of}
use Rattle.msp_class.specs.Sums.{total_below}
use Rattle.msp_class.proofs.Sums.{Contains-filter, cond-scale, cond-yes, total_below-same, total_below-scale, total_below-range, total_below-term}
use Rattle.msp_class.proofs.IntegerRing.{natural, pos-le, le-pos, pos-sub, ≤ℤ_refl, ≤ℤ_trans, +ℤ_idl, *ℤ-one, *ℤ-zero}
use Rattle.msp_instance.specs.declared.Instance.{Instance}
use Rattle.msp_instance.specs.Instance.{need_at}
use Rattle.msp_pieces.specs.declared.Piece.{Piece}
use Rattle.msp_pieces.specs.declared.Schedule.{Schedule}
use Rattle.msp_pieces.specs.Piece.{length_of, job_of, start, finish}
use Rattle.msp_pieces.specs.Feasible.{Feasible, total}
use Rattle.msp_pieces.specs.Cost.{end_of}
use Rattle.msp_pieces.specs.Laws.{time_together, HasRoom, BeginsFrom, EndsLast, LawOfEnds, floor, floored, floored_piece, LawOfFloors}
use Rattle.msp_pieces.specs.Intervals.{work_of}
use Rattle.msp_pieces.proofs.lists.Intervals.{last_of, last_of-bound, room, law_of_ends as last_of_all}
use Rattle.msp_pieces.proofs.feasible.OneMachine.{unit_in_parts, timed_pieces, machines_below, apart_on_machines, full_work, last_end-is}
use Rattle.msp_pieces.proofs.feasible.LastEnds.{last_end-bound, last_end-natural}
use Rattle.msp_pieces.proofs.feasible.Frames.{Frame, frame_by, Stands, Fits, IsShaped, IsShaped-from_identical, of_operation, part, map-same, Fits-from_feasible}
use Rattle.msp_pieces.proofs.changes.Transport.{Carries, carried, carried_schedule, Feasible-carried, end_of-carried}
use Rattle.msp_pieces.proofs.changes.Serves.{IsMultiple-same, Suits-same}

module _ (i : Instance) (s : Schedule) (test : ℕ → Bool) (kind : kind_of i.class.env ≡ Identical) (f : Feasible i s) where
  abbrev unit : ℕ
  unit = nat_abs s.unit

  abbrev work : ℕ
  work = total_below (length i.jobs) (λ j. cond (test j) (work_of job_of start finish s.pieces j) 0)

  work_is : work ≡ unit * time_together i test
  work_is =
      let n = length i.jobs in
      let time = λ (j : ℕ). cond (test j) (need_at i j 0).time 0 in
      total_below-same n _ (λ j. unit * time j) (λ j l. ap (λ m. cond (test j) m 0) (full_work i kind s f j l) ∙ cond-scale (test j) unit (need_at i j 0).time)
      ∙ total_below-scale n unit time ∙ ap (λ m. unit * m) (sym (total_below-range n time))

  from_room : (a b : ℕ) → a ≤ b → work ≤ i.machines * (b - a) → HasRoom i s test (pos a) (pos b)
  from_room a b h w = subst₂ (λ x y. x ≤ℤ y) (sym (ap (λ u. u *ℤ pos (time_together i test)) (unit_in_parts i s f)))
      (ap (λ z. pos i.machines *ℤ z) (pos-sub b a h)) (pos-le (subst (λ m. m ≤ i.machines * (b - a)) work_is w))

  begins : (a : ℕ) → BeginsFrom (pos a) test s → All (λ p. test p.job ≡ true → a ≤ start p) s.pieces
  begins a h k d l e = let t = timed_pieces i kind s f k d l in omega (arith, ints, t.from, h k d l e)

  has_room : (a b : ℕ) → a ≤ b → BeginsFrom (pos a) test s → ((j : ℕ) → j < length i.jobs → test j ≡ true → end_of s j ≤ℤ pos b) → HasRoom i s test (pos a) (pos b)
  has_room a b less h ends = from_room a b less (room job_of (λ p. p.machine) start finish test i.machines (length i.jobs)
      a b s.pieces (λ k d l. (f.place k d l).job) (machines_below i kind s f) (apart_on_machines i kind s f) (λ k d l e. (begins a h k d l e, ended k d l e)))
    where
      ended : All (λ p. test p.job ≡ true → finish p ≤ b) s.pieces
      ended k d l e = let t = timed_pieces i kind s f k d l in omega (arith, ints, t.to, last_end-bound s.pieces k d l, ends (get_or s.pieces k d).job (f.place k d l).job e)

  has_last : (a : ℕ) → BeginsFrom (pos a) test s → ((j : ℕ) → j < length i.jobs → 1 ≤ (need_at i j 0).time)
      → (j : ℕ) → j < length i.jobs → test j ≡ true → (k : ℕ) × EndsLast i s test k × HasRoom i s test (pos a) (end_of s k)
  has_last a h some j l e =
      let last = last_of job_of finish s.pieces in
      let (k, inside, passes, latest, after, bound) = last_of_all job_of (λ p. p.machine) start finish test last i.machines (length i.jobs) a s.pieces
      (λ k d l. (f.place k d l).job) (machines_below i kind s f) (apart_on_machines i kind s f) (begins a h) (last_of-bound job_of finish s.pieces) positive in (
        k,
        record { inside = inside; passes = passes; latest = λ m b p. subst₂ (λ x y. x ≤ℤ y) (sym (end_is m)) (sym (end_is k)) (pos-le (latest m b p)) },
        subst (HasRoom i s test (pos a)) (sym (end_is k)) (from_room a (last k) (omega arith) bound),
      )
    where
      end_is : (m : ℕ) → end_of s m ≡ pos (last_of job_of finish s.pieces m)
      end_is m = last_end-is s.pieces m (timed_pieces i kind s f)

      positive : 0 < work
      positive =
          let term = total_below-term (length i.jobs) (λ m. cond (test m) (work_of job_of start finish s.pieces m) 0) j l in
          let own : cond (test j) (work_of job_of start finish s.pieces j) 0 ≡ unit * (need_at i j 0).time = cond-yes (work_of job_of start finish s.pieces j) e ∙ full_work i kind s f j l in
          let parts : 1 ≤ unit = omega (arith, ints, f.unit) in
          omega (arith, mul-pos parts (some j l), term, own)

pub law_of_ends : LawOfEnds
law_of_ends = record {
  room = λ i s test begin end kind f b less h ends. subst₂ (HasRoom i s test) (sym (natural begin b)) (sym (natural end (≤ℤ_trans b less)))
      (has_room i s test kind f (nat_abs begin) (nat_abs end) (omega (arith, ints))
      (subst (λ x. BeginsFrom x test s) (natural begin b) h) (λ j l e. subst (λ x. end_of s j ≤ℤ x) (natural end (≤ℤ_trans b less)) (ends j l e)));
  last = λ i s test begin kind f b h some j l e.
      let (k, last, room) = has_last i s test kind f (nat_abs begin) (subst (λ x. BeginsFrom x test s) (natural begin b) h) some j l e in
      (k, last, subst (λ x. HasRoom i s test x (end_of s k)) (sym (natural begin b)) room);
}

-- ---- floors
floor-mono : (unit x y : ℤ) → pos 1 ≤ℤ unit → pos 0 ≤ℤ x → x ≤ℤ y → floor unit x ≤ℤ floor unit y
floor-mono (pos u) (pos a) (pos b) p q h = pos-le (mul-le-mul_left u (le-div (a / u) b u (le-pos p) (le_trans (div-mul-le_self a u) (le-pos h))))
floor-mono _ _ _ p q h = absurd (omega (arith, ints))

floor-below : (unit x : ℤ) → pos 1 ≤ℤ unit → pos 0 ≤ℤ x → floor unit x ≤ℤ x
floor-below (pos u) (pos a) p q = pos-le (mul-div-le a u)
floor-below _ _ p q = absurd (omega (arith, ints))

-- a multiple that is not after the moment is not after its floor
floor-after : (unit x : ℤ) (h : ℕ) → pos 1 ≤ℤ unit → pos 0 ≤ℤ x → (unit *ℤ pos h) ≤ℤ x → (unit *ℤ pos h) ≤ℤ floor unit x
floor-after (pos u) (pos a) h p q b = pos-le (mul-le-mul_left u (le-div h a u (le-pos p) (omega (arith, le-pos b))))
floor-after _ _ h p q b = absurd (omega (arith, ints))

-- a unit later, the floor is one unit later
floor-next : (unit x : ℤ) → pos 1 ≤ℤ unit → pos 0 ≤ℤ x → floor unit (x +ℤ unit) ≡ floor unit x +ℤ unit
floor-next (pos u) (pos a) p q = ap pos (ap (λ n. u * (n / u)) (add_comm a u) ∙ ap (λ n. u * n) (add-div_left a (le-pos p)) ∙ omega arith)
floor-next _ _ p q = absurd (omega (arith, ints))

-- where operations may not be cut, each piece is all its operation wants
whole_parts : (f : Frame) (unit : ℤ) (ps : List Piece) → Fits f unit ps → f.cut ≡ false → All (λ p. part f p ≡ unit *ℤ pos (f.want p.job p.op)) ps
whole_parts f unit ps fits e k d l = by (get_or ps k d) (Contains-get_or ps k d l) (fits.place k d l)
  where
    only : (q p : Piece) → Contains (q ∷ []) p → p ≡ q
    only q p (zero, l, e) = sym e
    only q p (suc k, l, e) = absurd (omega arith)

    by : (p : Piece) → Contains ps p → Stands f p → part f p ≡ unit *ℤ pos (f.want p.job p.op)
    by p c stands =
        let g = fits.work p.job p.op stands.job stands.operation in
        let (q, one) = g.one e in
        let own : Contains (of_operation ps p.job p.op) p = Contains-filter (λ r. (r.job == p.job) && (r.op == p.op)) ps p c (ap₂ ◌&&◌ (eq-eqb p.job p.job refl) (eq-eqb p.op p.op refl)) in
        ap (part f) (only q p (subst (λ l. Contains l p) one own)) ∙ sym (ap (λ l. total (map (part f) l)) one ∙ +ℤ_idl (part f q)) ∙ g.sum

module _ (i : Instance) (s : Schedule) (kind : kind_of i.class.env ≡ Identical) (whole : i.class.cut ≡ false) (ones : (j : ℕ) → j < length i.jobs → (need_at i j 0).time ≡ 1) (f : Feasible i s) where
  shaped : IsShaped i
  shaped = IsShaped-from_identical i kind

  fits : Fits (frame_by Identical i) s.unit s.pieces
  fits = subst (λ k. Fits (frame_by k i) s.unit s.pieces) kind (Fits-from_feasible i s shaped f)

  -- each piece lasts one unit
  long : All (λ p. p.to ≡ p.from +ℤ s.unit) s.pieces
  long k d l = by (get_or s.pieces k d) (fits.place k d l) (whole_parts (frame_by Identical i) s.unit s.pieces fits whole k d l)
    where
      by : (p : Piece) → Stands (frame_by Identical i) p → part (frame_by Identical i) p ≡ s.unit *ℤ pos (need_at i p.job p.op).time → p.to ≡ p.from +ℤ s.unit
      by p stands e =
          let full = ap (λ n. s.unit *ℤ pos n) (ap (λ o. (need_at i p.job o).time) stands.operation ∙ ones p.job stands.job) in
          omega (arith, ints, sym (*ℤ-one (length_of p)) ∙ e ∙ full ∙ *ℤ-one s.unit)

  to_floor : All (λ p. floor s.unit p.to ≡ floor s.unit p.from +ℤ s.unit) s.pieces
  to_floor k d l = ap (floor s.unit) (long k d l) ∙ floor-next s.unit (get_or s.pieces k d).from f.unit (f.span k d l).0

  carries : Carries (frame_by Identical i) (frame_by Identical i) s.unit s.unit s.pieces (pos 1) (floor s.unit) (λ j o. o)
  carries = record {
    unit = f.unit;
    moments = record {
      factor = ≤ℤ_refl (pos 1);
      zero_is = ap (λ n. s.unit *ℤ pos n) (zero-div (nat_abs s.unit)) ∙ *ℤ-zero s.unit;
      monotone = λ x y p h. floor-mono s.unit x y f.unit p h;
      long = λ k d l. omega (arith, ints, long k d l, to_floor k d l);
    };
    operations = Suits-same (frame_by Identical i) (frame_by Identical i) s.unit (record {
      jobs = refl;
      has = λ j o l h. h;
      all = λ j o l h. h;
      may = λ j o m l h w. w;
      ratio = λ j o l h. IsMultiple-same (frame_by Identical i) (frame_by Identical i) j o (λ m w. refl) refl;
      cut = λ e. e;
    });
    heads = λ k d l inside h. floor-after s.unit (get_or s.pieces k d).from _ f.unit (f.span k d l).0 h;
    arcs = All-contains_itself i.arcs;
    routed = λ e. inl e;
  }

  same_schedule : carried_schedule s.unit (floor s.unit) (λ j o. o) s ≡ floored s
  same_schedule = ap (λ l. record { unit = s.unit; pieces = l }) (map-same (carried (floor s.unit) (λ j o. o)) (floored_piece s.unit) s.pieces
      (λ k d l. let p = get_or s.pieces k d in ap (λ x. record { job = p.job; op = p.op; machine = p.machine; from = floor s.unit p.from; to = x }) (to_floor k d l)))

  is_feasible : Feasible i (floored s)
  is_feasible = subst (Feasible i) same_schedule (Feasible-carried i i s Identical Identical kind kind s.unit (pos 1) (floor s.unit) (λ j o. o) shaped f carries shaped)

  no_later : (j : ℕ) → end_of (floored s) j ≤ℤ end_of s j
  no_later j = subst (λ x. x ≤ℤ end_of s j) (sym (end_of-carried i i s Identical Identical kind kind s.unit (pos 1) (floor s.unit) (λ j o. o) shaped f carries j) ∙ ap (λ t. end_of t j) same_schedule)
      (floor-below s.unit (end_of s j) f.unit (last_end-natural s.pieces j))

pub law_of_floors : LawOfFloors
law_of_floors i s kind whole ones f = (is_feasible i s kind whole ones f, no_later i s kind whole ones f)
