-- What one job more adds to a pass over two machines: its pieces do not overlap, and on each machine they stand in the order of the jobs and
-- begin as early as they can.
use Rattle.std.proofs.Common.{◌≡◌, ◌≢◌, ℕ, ◌+◌, ◌<◌, ◌≤◌, ◌⊎◌, inl, inr, max, Bool, true, false, leb, List, [], ◌∷◌, ◌++◌, length, length-append, get_or, All, AllPairs, Contains, sum_by}
use Rattle.std.proofs.Common.{refl, sym, ap, ◌∙◌, arith}
use Rattle.std.proofs.lemmas.Bool.{leb-true, leb-false, cases_lt}
use Rattle.std.proofs.lemmas.List.{get_or_append_left, get_or_at, get_or_default}
use Rattle.std.proofs.lemmas.List.Sums.{sum_by-le}
use Rattle.std.proofs.lemmas.List.Elements.{All-nil, All-push, All-contains, Contains-append_left, Contains-append_right}
use Rattle.std.proofs.Math.Nat.{max-eq_left, max-eq_right, le_of_lt}
use Rattle.msp_pieces.specs.declared.Piece.{Piece}
use Rattle.msp_pieces.specs.Piece.{start, finish, IsTimed}
use Rattle.msp_pieces.specs.Intervals.{IsApartOn}
use Rattle.msp_pieces.proofs.lists.Parts.{AllPairs-front, AllPairs-last}
use Rattle.msp_shops.specs.declared.pass.JobTimes.{JobTimes}
use Rattle.msp_shops.specs.declared.pass.Moments.{Moments}
use Rattle.msp_shops.specs.declared.pass.Stage.{Stage}
use Rattle.msp_shops.specs.Pass.{whole_piece, part, IsOf, HasPiece, machine_of, IsTidy, StandsBefore, IsEarly, IsEndOn, IsInLine}
use Rattle.msp_shops.proofs.Parts.{Contains-part, All-more, AllPairs-more}

-- ---- lists
sum_by-none : (f : JobTimes → ℕ) (xs : List JobTimes) → All (λ x. f x ≡ 0) xs → sum_by f xs ≡ 0
sum_by-none f xs h = omega (arith, sum_by-le f 0 xs (λ k d l. omega (arith, h k d l)))

StandsBefore-more : (jobs : List JobTimes) (j : JobTimes) (a b : ℕ) → StandsBefore jobs a b → StandsBefore (jobs ++ j ∷ []) a b
StandsBefore-more jobs j a b (x, y, before, inside, is) = (
  x,
  y,
  before,
  omega (arith, inside, length-append jobs (j ∷ [])),
  λ d. (ap (λ k. k.job) (get_or_append_left jobs (j ∷ []) d x (omega (arith, before, inside))) ∙ (is d).0, ap (λ k. k.job) (get_or_append_left jobs (j ∷ []) d y inside) ∙ (is d).1),
)

StandsBefore-last : (jobs : List JobTimes) (j k : JobTimes) (a : ℕ) → Contains jobs k → a ≡ k.job → StandsBefore (jobs ++ j ∷ []) a j.job
StandsBefore-last jobs j k a (x, inside, is) e = (
  x,
  length jobs,
  inside,
  omega (arith, length-append jobs (j ∷ [])),
  λ d. (ap (λ t. t.job) (get_or_append_left jobs (j ∷ []) d x inside ∙ get_or_default jobs x d k inside ∙ is) ∙ sym e, ap (λ t. t.job) (get_or_at jobs j [] d (length jobs) refl)),
)

pub job_of : (first second : Stage) (from to : Moments) (p : Piece) (k : JobTimes) → IsOf first second from to p k → p.job ≡ k.job
job_of first second from to p k (inl o) = o.job
job_of first second from to p k (inr o) = o.job

-- ---- no job, and one more
module _ (first second : Stage) (from : Moments) where
  pub IsInLine-none : IsInLine first second [] from from []
  IsInLine-none = record {
    row = λ a b d h k. absurd (omega arith);
    early = λ h. All-nil (IsEarly second from []);
    first_end = inl refl;
    second_end = inl (inl refl);
  }

module _ (first second : Stage) (machines : first.machine ≢ second.machine) (jobs : List JobTimes) (from at : Moments) (j : JobTimes) (ps : List Piece)
    (tidy : IsTidy first second jobs from at ps) where
  abbrev begin : ℕ
  begin = max (at.first + j.first) at.second

  abbrev to : Moments
  to = record { first = at.first + j.first; second = begin + j.second }

  abbrev all : List JobTimes
  all = jobs ++ j ∷ []

  abbrev one : Piece
  one = whole_piece j.job first at.first j.first

  abbrev two : Piece
  two = whole_piece j.job second begin j.second

  abbrev firsts : List Piece
  firsts = part j.job first at.first j.first

  abbrev seconds : List Piece
  seconds = part j.job second begin j.second

  abbrev new : List Piece
  new = (ps ++ firsts) ++ seconds

  still : (q : Piece) → Contains ps q → Contains new q
  still q c = Contains-append_left (ps ++ firsts) seconds q (Contains-append_left ps firsts q c)

  has_one : 0 < j.first → Contains new one
  has_one some = Contains-append_left (ps ++ firsts) seconds one (Contains-append_right ps firsts one (Contains-part j.job first at.first j.first some))

  has_two : 0 < j.second → Contains new two
  has_two some = Contains-append_right (ps ++ firsts) seconds two (Contains-part j.job second begin j.second some)

  -- what holds of the pieces so far, and of those of the job
  each : (P : Piece → Type 0) → All P ps → (0 < j.first → P one) → (0 < j.second → P two) → All P new
  each = All-more ps j.job first second at.first begin j.first j.second

  pairs : (R : Piece → Piece → Type 0) → AllPairs R ps → All (λ p. R p one) ps → All (λ p. R p two) ps → R one two → AllPairs R new
  pairs = AllPairs-more ps j.job first second at.first begin j.first j.second

  -- ---- the pieces of the jobs stay in order
  module _ (other : All (λ k. k.job ≢ j.job) jobs) (begun : (from.first ≤ at.first) × (from.second ≤ at.second)) where
    itself : Contains all j
    itself = Contains-append_right jobs (j ∷ []) j (0, omega arith, refl)

    later : (p : Piece) (k : JobTimes) → IsOf first second from at p k → IsOf first second from to p k
    later p k (inl o) = inl (record { job = o.job; op = o.op; machine = o.machine; whole = o.whole; from = o.from; to = omega (arith, o.to) })
    later p k (inr o) = inr (record { job = o.job; op = o.op; machine = o.machine; whole = o.whole; from = o.from; to = omega (arith, o.to) })

    known : All (λ p. (k : JobTimes) × Contains all k × IsOf first second from to p k) new
    known = each (λ p. (k : JobTimes) × Contains all k × IsOf first second from to p k)
        (λ n d l. let (k, c, o) = tidy.known n d l in (k, Contains-append_left jobs (j ∷ []) k c, later (get_or ps n d) k o))
        (λ s. (j, itself, inl (record { job = refl; op = refl; machine = refl; whole = refl; from = begun.0; to = omega arith })))
        (λ s. (j, itself, inr (record { job = refl; op = refl; machine = refl; whole = refl; from = omega (arith, begun.1); to = omega arith })))

    has_still : (stage : Stage) (k : ℕ) → HasPiece ps stage k → HasPiece new stage k
    has_still stage k (p, c, e, f) = (p, still p c, e, f)

    has_first : All (λ k. 0 < k.first → HasPiece new first k.job) all
    has_first = All-push (λ k. 0 < k.first → HasPiece new first k.job) jobs j (λ n d l s. has_still first (get_or jobs n d).job (tidy.has_first n d l s))
        (λ s. (one, has_one s, refl, refl))

    has_second : All (λ k. 0 < k.second → HasPiece new second k.job) all
    has_second = All-push (λ k. 0 < k.second → HasPiece new second k.job) jobs j (λ n d l s. has_still second (get_or jobs n d).job (tidy.has_second n d l s))
        (λ s. (two, has_two s, refl, refl))

    apart : AllPairs (IsApartOn machine_of start finish) new
    apart = pairs (IsApartOn machine_of start finish) tidy.apart
        (λ n d l e. let (k, c, o) = tidy.known n d l in elim o [ inl x ↦ inl x.to | inr x ↦ absurd (machines (sym e ∙ x.machine)) ])
        (λ n d l e. let (k, c, o) = tidy.known n d l in elim o [ inl x ↦ absurd (machines (sym x.machine ∙ e)) | inr x ↦ inl (omega (arith, x.to)) ])
        (λ e. absurd (machines e))

    not_mine : All (λ p. p.job ≢ j.job) ps
    not_mine n d l e = let (k, c, o) = tidy.known n d l in All-contains (λ k. k.job ≢ j.job) jobs k other c (sym (job_of first second from at _ k o) ∙ e)

    in_order : AllPairs (λ p q. p.job ≡ q.job → (p.op ≡ first.op) × (q.op ≡ second.op) × (finish p ≤ start q)) new
    in_order = pairs (λ p q. p.job ≡ q.job → (p.op ≡ first.op) × (q.op ≡ second.op) × (finish p ≤ start q)) tidy.in_order
        (λ n d l e. absurd (not_mine n d l e))
        (λ n d l e. absurd (not_mine n d l e))
        (λ e. (refl, refl, omega arith))

    pub IsTidy-next : IsTidy first second all from to new
    IsTidy-next = record {
      timed = each IsTimed tidy.timed (λ s. record { from = refl; to = refl; lasts = omega (arith, s) }) (λ s. record { from = refl; to = refl; lasts = omega (arith, s) });
      known = known;
      has_first = has_first;
      has_second = has_second;
      apart = apart;
      in_order = in_order;
    }

  -- ---- they stay in line
  module _ (total : at.first ≡ from.first + sum_by (λ k. k.first) jobs) (h : IsInLine first second jobs from at ps) where
    -- ---- the row
    abbrev InRow : List JobTimes → Piece → Piece → Type 0
    InRow js p q = p.machine ≡ q.machine → StandsBefore js p.job q.job × (p.op ≡ q.op) × (finish p ≤ start q)

    first_after : (p : Piece) (k : JobTimes) → Contains jobs k → IsOf first second from at p k → InRow all p one
    first_after p k c (inl o) e = (StandsBefore-last jobs j k p.job c o.job, o.op, o.to)
    first_after p k c (inr o) e = absurd (machines (sym e ∙ o.machine))

    second_after : (p : Piece) (k : JobTimes) → Contains jobs k → IsOf first second from at p k → InRow all p two
    second_after p k c (inl o) e = absurd (machines (sym o.machine ∙ e))
    second_after p k c (inr o) e = (StandsBefore-last jobs j k p.job c o.job, o.op, omega (arith, o.to))

    row : AllPairs (InRow all) new
    row = pairs (InRow all)
        (λ a b d l m e. let (s, o, t) = h.row a b d l m e in (StandsBefore-more jobs j (get_or ps a d).job (get_or ps b d).job s, o, t))
        (λ n d l. let (k, c, o) = tidy.known n d l in first_after (get_or ps n d) k c o)
        (λ n d l. let (k, c, o) = tidy.known n d l in second_after (get_or ps n d) k c o)
        (λ e. absurd (machines e))

    -- ---- the begins
    IsEarly-still : (p : Piece) → IsEarly second from ps p → IsEarly second from new p
    IsEarly-still p (inl e) = inl e
    IsEarly-still p (inr (inl e)) = inr (inl e)
    IsEarly-still p (inr (inr (q, c, e, s))) = inr (inr (q, still q c, e, s))

    second_early : (j.first ≡ 0 → at.first ≡ from.first) → IsEarly second from new two
    second_early none = by (leb at.second (at.first + j.first)) refl h.second_end
      where
        own : at.second ≤ at.first + j.first → (j.first < 1) ⊎ (1 ≤ j.first) → IsEarly second from new two
        own l (inl zero) = let nothing : j.first ≡ 0 = omega (arith, zero) in inl (max-eq_left l ∙ omega (arith, nothing, none nothing))
        own l (inr some) = inr (inr (one, has_one (omega (arith, some)), sym (max-eq_left l), inr refl))

        by : (b : Bool) → leb at.second (at.first + j.first) ≡ b → IsEndOn second.machine from.second ps at.second ⊎ (at.second ≤ at.first) → IsEarly second from new two
        by true e end = own (leb-true _ _ e) (cases_lt j.first 1)
        by false e (inl (inl s)) = inr (inl (refl, max-eq_right (le_of_lt (leb-false _ _ e)) ∙ s))
        by false e (inl (inr (q, c, m, s))) = inr (inr (q, still q c, s ∙ sym (max-eq_right (le_of_lt (leb-false _ _ e))), inl m))
        by false e (inr l) = absurd (omega (arith, l, leb-false _ _ e))

    early : AllPairs (λ s t. t.first ≡ 0 → s.first ≡ 0) all → All (IsEarly second from new) new
    early sorted = each (IsEarly second from new)
        (λ n d l. IsEarly-still (get_or ps n d) (h.early (AllPairs-front (λ s t. t.first ≡ 0 → s.first ≡ 0) jobs (j ∷ []) sorted) n d l))
        (λ some. elim h.first_end [ inl e ↦ inl e | inr (q, c, m, e) ↦ inr (inr (q, still q c, e, inl m)) ])
        (λ some. second_early nothing)
      where
        nothing : j.first ≡ 0 → at.first ≡ from.first
        nothing e = omega (
          arith,
          total,
          sum_by-none (λ k. k.first) jobs (λ n d l. AllPairs-last (λ s t. t.first ≡ 0 → s.first ≡ 0) jobs j sorted n d l e),
        )

    -- ---- the ends
    first_end : (j.first < 1) ⊎ (1 ≤ j.first) → IsEndOn first.machine from.first ps at.first → IsEndOn first.machine from.first new to.first
    first_end (inl zero) (inl e) = inl (omega (arith, zero, e))
    first_end (inl zero) (inr (q, c, m, e)) = inr (q, still q c, m, omega (arith, zero, e))
    first_end (inr some) e = inr (one, has_one (omega (arith, some)), refl, refl)

    second_end : (j.second < 1) ⊎ (1 ≤ j.second) → IsEndOn second.machine from.second ps at.second ⊎ (at.second ≤ at.first) → IsEndOn second.machine from.second new to.second ⊎ (to.second ≤ to.first)
    second_end (inr some) e = inl (inr (two, has_two (omega (arith, some)), refl, refl))
    second_end (inl zero) (inr l) = inr (omega (arith, zero, l))
    second_end (inl zero) (inl e) = by (leb at.second (at.first + j.first)) refl e
      where
        by : (b : Bool) → leb at.second (at.first + j.first) ≡ b → IsEndOn second.machine from.second ps at.second → IsEndOn second.machine from.second new to.second ⊎ (to.second ≤ to.first)
        by true e f = inr (omega (arith, zero, leb-true _ _ e))
        by false e (inl f) = inl (inl (omega (arith, zero, f, leb-false _ _ e)))
        by false e (inr (q, c, m, f)) = inl (inr (q, still q c, m, omega (arith, zero, f, leb-false _ _ e)))

    pub IsInLine-next : IsInLine first second all from to new
    IsInLine-next = record {
      row = row;
      early = early;
      first_end = first_end (cases_lt j.first 1) h.first_end;
      second_end = second_end (cases_lt j.second 1) h.second_end;
    }
