-- Pieces by places: one for each operation, on its machine and apart from the others of that machine and of its job, and behind the operations
-- before it where those have a route. They make a feasible schedule.
use Rattle.std.proofs.Common.{◌≡◌, ◌≢◌, ℕ, ◌+◌, ◌*◌, ◌<◌, ◌≤◌, ◌⊎◌, inl, inr, false, eqb, List, [], ◌∷◌, length, get_or, map, All, AllPairs, pos, ◌*ℤ◌, ◌≤ℤ◌}
use Rattle.std.proofs.Common.{sym, ap, ap₂, subst, subst₂, ◌∙◌, arith, zero-add}
use Rattle.std.specs.Prelude.{◌==◌, ◌&&◌}
use Rattle.std.specs.List.{range_with_len}
use Rattle.std.proofs.Math.Nat.{mul-le-mul_right}
use Rattle.std.proofs.lemmas.Bool.Decides.{nat_tests}
use Rattle.std.proofs.lemmas.Int.{ints}
use Rattle.std.proofs.lemmas.List.{length-map, get_or-map}
use Rattle.std.proofs.lemmas.List.FromFn.{get_or-map-range_with_len, length-map-range_with_len}
use Rattle.msp_class.specs.declared.sizes.TheConstants.{MOST_JOBS, MOST_MACHINES, GREATEST}
use Rattle.msp_class.specs.Env.{kind_of, is_mirror_kind}
use Rattle.msp_class.proofs.IntegerRing.{pos-le, pos-lt, zero-le-pos, *ℤ-one, +ℤ_idl, one-*ℤ}
use Rattle.msp_class.proofs.Quotients.{same_block}
use Rattle.msp_class.proofs.Sums.{OnceBelow, OnceBelow-from_distinct}
use Rattle.msp_instance.specs.declared.Instance.{Instance}
use Rattle.msp_instance.specs.Instance.{job_at, need_at}
use Rattle.msp_pieces.specs.declared.Piece.{Piece}
use Rattle.msp_pieces.specs.declared.Schedule.{Schedule}
use Rattle.msp_pieces.specs.Piece.{length_of, IsBefore, IsApart, no_piece}
use Rattle.msp_pieces.specs.Cost.{end_of}
use Rattle.msp_pieces.specs.Feasible.{Feasible, HasOperation, MayRun, total, whole_work}
use Rattle.msp_pieces.specs.Within.{IsMoment, Within}
use Rattle.msp_pieces.proofs.lists.OnceEach.{OnceBelow-one}
use Rattle.msp_pieces.proofs.feasible.OneMachine.{filter-same}
use Rattle.msp_pieces.proofs.feasible.LastEnds.{last_end-least}
use Rattle.msp_pieces.proofs.feasible.Frames.{IsShaped, rate_on, frame_of, Stands, Fits, Gets, Lasts, part, of_operation, of_one, named_one, Feasible-from_fits}
use Rattle.msp_route.specs.declared.bounds.TheConstants.{GREATEST_ANSWER_MOMENT}
use Rattle.msp_route.specs.Bounds.{IsAnswer, answer_unit}
use Rattle.std.proofs.lemmas.Bool.{not-true}
use Rattle.msp_pieces.proofs.feasible.BackToBack.{ordered_without_arcs}

-- what is read of an instance without arcs, each of whose jobs has as many operations
pub record HasOperations (i : Instance) (ops : ℕ) : Type 0 where
  pub shaped : IsShaped i
  pub has : (j o : ℕ) → j < length i.jobs → HasOperation (kind_of i.class.env) i j o → o < ops
  pub rate : (j m : ℕ) → rate_on (kind_of i.class.env) i j m ≡ 1
  pub want : (j o : ℕ) → whole_work (kind_of i.class.env) i j o ≡ (need_at i j o).time
  pub arcs : i.arcs ≡ []

-- each place has an operation of a job, a machine, and the moments from which and to which it runs
pub record Places : Type 0 where
  pub count : ℕ
  pub job : ℕ → ℕ
  pub op : ℕ → ℕ
  pub machine : ℕ → ℕ
  pub from : ℕ → ℕ
  pub to : ℕ → ℕ

abbrev pub piece_at : Places → ℕ → Piece
piece_at ps x = record { job = ps.job x; op = ps.op x; machine = ps.machine x; from = pos (ps.from x); to = pos (ps.to x) }

abbrev pub pieces_at : Places → List Piece
pieces_at ps = map (piece_at ps) (range_with_len 0 ps.count)

abbrev pub schedule_at : Places → Schedule
schedule_at ps = record { unit = pos 1; pieces = pieces_at ps }

pub record ArePlaced (i : Instance) (ops : ℕ) (ps : Places) : Type 0 where
  pub count : ps.count ≡ length i.jobs * ops
  pub few : ps.count ≤ MOST_MACHINES * MOST_JOBS
  pub job_inside : (x : ℕ) → x < ps.count → ps.job x < length i.jobs
  pub op_inside : (x : ℕ) → x < ps.count → ps.op x < ops
  pub operation : (x : ℕ) → x < ps.count → HasOperation (kind_of i.class.env) i (ps.job x) (ps.op x)
  pub may : (x : ℕ) → x < ps.count → MayRun (kind_of i.class.env) i (ps.job x) (ps.op x) (ps.machine x)
  pub once : (x y : ℕ) → x < y → y < ps.count → ps.job x ≡ ps.job y → ps.op x ≡ ps.op y → ⊥
  pub long : (x : ℕ) → x < ps.count → ps.to x ≡ ps.from x + (need_at i (ps.job x) (ps.op x)).time
  pub some : (x : ℕ) → x < ps.count → 1 ≤ (need_at i (ps.job x) (ps.op x)).time
  pub on_machine : (x y : ℕ) → x < y → y < ps.count → ps.machine x ≡ ps.machine y → (ps.to x ≤ ps.from y) ⊎ (ps.to y ≤ ps.from x)
  pub of_job : (x y : ℕ) → x < y → y < ps.count → ps.job x ≡ ps.job y → (ps.to x ≤ ps.from y) ⊎ (ps.to y ≤ ps.from x)
  pub routed : is_mirror_kind (kind_of i.class.env) ≡ false → (x y : ℕ) → x < ps.count → y < ps.count → ps.job x ≡ ps.job y → ps.op x < ps.op y → ps.to x ≤ ps.from y
  pub released : (x : ℕ) → x < ps.count → (job_at i (ps.job x)).release ≤ ps.from x
  pub early : (x : ℕ) → x < ps.count → ps.to x ≤ MOST_JOBS * GREATEST

-- one number tells job and operation
same_key : (w a b c d : ℕ) → b < w → d < w → (eqb a c && eqb b d) ≡ eqb (a * w + b) (c * w + d)
same_key w a b c d l k = grind (arith, nat_tests, same_block w a c b d l k)

module _ (i : Instance) (ops : ℕ) (ps : Places) (h : HasOperations i ops) (placed : ArePlaced i ops ps) where
  abbrev pieces : List Piece
  pieces = pieces_at ps

  many : length pieces ≡ ps.count
  many = length-map-range_with_len (piece_at ps) 0 ps.count

  piece_is : (k : ℕ) (d : Piece) → k < ps.count → get_or pieces k d ≡ piece_at ps k
  piece_is k d l = get_or-map-range_with_len (piece_at ps) 0 ps.count k k d l (zero-add k)

  all : (P : Piece → Type 0) → ((x : ℕ) → x < ps.count → P (piece_at ps x)) → All P pieces
  all P f k d l = let b : k < ps.count = omega (arith, l, many) in subst P (sym (piece_is k d b)) (f k b)

  pairs : (R : Piece → Piece → Type 0) → ((x y : ℕ) → x < y → y < ps.count → R (piece_at ps x) (piece_at ps y)) → AllPairs R pieces
  pairs R f a b d l k = let q : b < ps.count = omega (arith, k, many) in subst₂ R (sym (piece_is a d (omega (arith, l, q)))) (sym (piece_is b d q)) (f a b l q)

  -- ---- one piece for each operation
  abbrev key : Piece → ℕ
  key p = p.job * ops + p.op

  key_small : (j o : ℕ) → j < length i.jobs → o < ops → j * ops + o < ps.count
  key_small j o l k = omega (arith, placed.count, k, mul-le-mul_right ops (let more : j + 1 ≤ length i.jobs = omega (arith, l) in more))

  keys : OnceBelow ps.count (map key pieces)
  keys = OnceBelow-from_distinct ps.count (map key pieces) (length-map pieces key ∙ many) within distinct
    where
      key_is : (k d : ℕ) → k < ps.count → get_or (map key pieces) k d ≡ ps.job k * ops + ps.op k
      key_is k d l = get_or-map key pieces k no_piece d (omega (arith, l, many)) ∙ ap key (piece_is k no_piece l)

      within : All (λ x. x < ps.count) (map key pieces)
      within k d l =
          let b : k < ps.count = omega (arith, l, many, length-map pieces key) in
          subst (λ x. x < ps.count) (sym (key_is k d b)) (key_small (ps.job k) (ps.op k) (placed.job_inside k b) (placed.op_inside k b))

      distinct : AllPairs (λ x y. x ≢ y) (map key pieces)
      distinct a b d l k e =
          let q : b < ps.count = omega (arith, k, many, length-map pieces key) in
          let p : a < ps.count = omega (arith, l, q) in
          let same = same_block ops (ps.job a) (ps.job b) (ps.op a) (ps.op b) (placed.op_inside a p) (placed.op_inside b q) (sym (key_is a d p) ∙ e ∙ key_is b d q) in
          placed.once a b l q same.0 same.1

  gets : (j o : ℕ) → j < length i.jobs → o < ops → Gets (frame_of i) (pos 1) pieces j o
  gets j o l k = record { one = λ _. found; sum = by found.0 found.1 }
    where
      found : (p : Piece) × (of_operation pieces j o ≡ p ∷ [])
      found =
          let (p, e) = OnceBelow-one key pieces keys (j * ops + o) (key_small j o l k) in (
            p,
            filter-same (λ p. (p.job == j) && (p.op == o)) (λ p. eqb (key p) (j * ops + o)) pieces
                (all (λ p. ((p.job == j) && (p.op == o)) ≡ eqb (key p) (j * ops + o)) (λ x b. same_key ops (ps.job x) (ps.op x) j o (placed.op_inside x b) k)) ∙ e,
          )

      by : (p : Piece) → of_operation pieces j o ≡ p ∷ [] → total (map (part (frame_of i)) (of_operation pieces j o)) ≡ pos 1 *ℤ pos (whole_work (kind_of i.class.env) i j o)
      by p e =
          let name = named_one pieces j o p e in
          ap (λ l. total (map (part (frame_of i)) l)) e ∙ +ℤ_idl (part (frame_of i) p)
          ∙ ap (λ r. length_of p *ℤ pos r) (h.rate p.job p.machine) ∙ *ℤ-one (length_of p)
          ∙ of_one (λ q. length_of q ≡ pos (need_at i q.job q.op).time) pieces j o p e
          (all (λ q. length_of q ≡ pos (need_at i q.job q.op).time) (λ x b. omega (arith, ints, placed.long x b)))
          ∙ ap₂ (λ a b. pos (need_at i a b).time) name.0 name.1 ∙ ap pos (sym (h.want j o)) ∙ sym (one-*ℤ (pos (whole_work _ i j o)))

  -- ---- feasible
  fits : Fits (frame_of i) (pos 1) pieces
  fits = record {
    unit_from = omega (arith, ints);
    span = all Lasts (λ x b. (zero-le-pos (ps.from x), pos-lt (omega (arith, placed.long x b, placed.some x b))));
    place = all (Stands (frame_of i)) (λ x b. record { job = placed.job_inside x b; operation = placed.operation x b; machine = placed.may x b });
    machine = pairs (λ p q. p.machine ≡ q.machine → IsApart p q) (λ x y l b e. apart (placed.on_machine x y l b e));
    job = pairs (λ p q. p.job ≡ q.job → IsApart p q) (λ x y l b e. apart (placed.of_job x y l b e));
    release = all (λ p. (pos 1 *ℤ pos (job_at i p.job).release) ≤ℤ p.from) (λ x b. omega (arith, ints, placed.released x b));
    arc = ordered_without_arcs i.arcs pieces h.arcs;
    route = λ e. all (λ p. All (From p) pieces) (λ x b. all (From (piece_at ps x)) (λ y c f l. pos-le (placed.routed (not-true _ e) x y b c f l)));
    work = λ j o l has. gets j o l (h.has j o l has);
  }
    where
      From : Piece → Piece → Type 0
      From p q = p.job ≡ q.job → p.op < q.op → IsBefore p q

      apart : {a b c d : ℕ} → (a ≤ b) ⊎ (c ≤ d) → (pos a ≤ℤ pos b) ⊎ (pos c ≤ℤ pos d)
      apart e = elim e [ inl l ↦ inl (pos-le l) | inr l ↦ inr (pos-le l) ]

  pub placed_is_feasible : Feasible i (schedule_at ps)
  placed_is_feasible = Feasible-from_fits i (schedule_at ps) h.shaped fits

  -- ---- bounds
  pub placed_is_within : Within i (schedule_at ps)
  placed_is_within = record {
    unit = (omega (arith, ints), omega (arith, ints));
    few = omega (arith, many, placed.few);
    moments = all (λ p. IsMoment p.from × IsMoment p.to) (λ x b. moments (ps.from x) (ps.to x) (placed.early x b) (omega (arith, placed.long x b)));
    scaled = λ u. inr (omega (arith, ints));
  }
    where
      moments : (a b : ℕ) → b ≤ MOST_JOBS * GREATEST → a ≤ b → IsMoment (pos a) × IsMoment (pos b)
      moments a b l k = ((omega (arith, ints), omega (arith, ints, l, k)), (omega (arith, ints), omega (arith, ints, l)))

  pub placed_is_answer : pos 1 ≤ℤ answer_unit (kind_of i.class.env) → IsAnswer i (schedule_at ps)
  placed_is_answer unit = record { few = omega (arith, many, placed.few); unit = unit; ends = all (λ p. p.to ≤ℤ GREATEST_ANSWER_MOMENT) (λ x b. pos-le (omega (arith, placed.early x b))) }

  -- a job ends by the moment by which its places do
  pub placed_ends : (j end : ℕ) → ((x : ℕ) → x < ps.count → ps.job x ≡ j → ps.to x ≤ end) → end_of (schedule_at ps) j ≤ℤ pos end
  placed_ends j end ends = last_end-least pieces j (pos end) (zero-le-pos end) (all (λ p. p.job ≡ j → p.to ≤ℤ pos end) (λ x b e. pos-le (ends x b e)))
