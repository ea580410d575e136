-- Pieces that lie apart on machines, with the work of their jobs: what makes them a feasible schedule, and an answer.
use Rattle.std.proofs.Common.{◌≡◌, ℕ, ◌*◌, ◌<◌, ◌≤◌, true, List, [], ◌∷◌, length, get_or, map, pos, ◌*ℤ◌, ◌≤ℤ◌, All, AllPairs, MatchBool, sym, ap, subst, ◌∙◌, arith}
use Rattle.std.specs.Prelude.{◌==◌}
use Rattle.std.proofs.lemmas.Int.{ints}
use Rattle.std.proofs.lemmas.List.Elements.{All-filter}
use Rattle.msp_class.specs.declared.environments.EnvKind.{EnvKind}
use Rattle.msp_class.specs.declared.environments.EnvKind.TheVariants.{Identical}
use Rattle.msp_class.specs.Env.{kind_of}
use Rattle.msp_instance.specs.declared.Instance.{Instance}
use Rattle.msp_instance.specs.Instance.{job_at}
use Rattle.msp_pieces.specs.declared.Piece.{Piece}
use Rattle.msp_pieces.specs.declared.Schedule.{Schedule}
use Rattle.msp_pieces.specs.Piece.{job_of, pieces_of, start, finish, IsBefore, IsTimed}
use Rattle.msp_pieces.specs.Intervals.{IsApart, work_of}
use Rattle.msp_pieces.specs.Feasible.{Feasible, HasPlace, HasOperation, MayRun, GetsWork, IsWholeWork, total, whole_work, work_of as part_of}
use Rattle.msp_pieces.specs.BackToBack.{time_at}
use Rattle.msp_pieces.proofs.feasible.OneMachine.{apart_in_int, pieces_of-job, total_lengths}
pub use Rattle.msp_pieces.proofs.feasible.OneEach.{HasOneOperation, HasOneOperation-identical, HasOneOperation-uniform}

-- the pieces of jobs on machines, apart on each and of each job, from release dates on and in the order of the arcs
pub record AreLaid (i : Instance) (unit : ℕ) (ps : List Piece) : Type 0 where
  pub some : 1 ≤ unit
  pub timed : All IsTimed ps
  pub jobs : All (λ p. p.job < length i.jobs) ps
  pub ops : All (λ p. p.op ≡ 0) ps
  pub inside : All (λ p. p.machine < i.machines) ps
  pub machines : AllPairs (λ p q. p.machine ≡ q.machine → IsApart start finish p q) ps
  pub apart : AllPairs (λ p q. p.job ≡ q.job → IsApart start finish p q) ps
  pub released : All (λ p. unit * (job_at i p.job).release ≤ start p) ps
  pub arcs : All (λ a. All (λ p. All (λ q. p.job ≡ a.before → q.job ≡ a.after → IsBefore p q) ps) ps) i.arcs

-- a job without release date is released at 0
pub at_zero : (unit r x : ℕ) → r ≡ 0 → unit * r ≤ x
at_zero unit r x e = subst (λ y. unit * y ≤ x) (sym e) (omega arith)

abbrev Gets : EnvKind → Instance → Schedule → ℕ → Type 0
Gets k i s j = MatchBool i.class.cut (total (map (part_of k i) (pieces_of s j 0)) ≡ s.unit *ℤ pos (whole_work k i j 0)) ((p : Piece) × (pieces_of s j 0 ≡ p ∷ []) × IsWholeWork k i s.unit p)

-- the work of a job, by the kind of its machines
pub gets_by_kind : (k : EnvKind) (i : Instance) (s : Schedule) (j : ℕ) → kind_of i.class.env ≡ k → Gets k i s j → GetsWork i s j 0
gets_by_kind k i s j kind gets = subst (λ x. Gets x i s j) (sym kind) gets

-- where jobs may be cut
pub gets_in_parts : (k : EnvKind) (i : Instance) (s : Schedule) (j : ℕ) → kind_of i.class.env ≡ k → i.class.cut ≡ true
    → total (map (part_of k i) (pieces_of s j 0)) ≡ s.unit *ℤ pos (whole_work k i j 0) → GetsWork i s j 0
gets_in_parts k i s j kind cut adds_up = gets_by_kind k i s j kind (subst (λ b. MatchBool b (total (map (part_of k i) (pieces_of s j 0)) ≡ s.unit *ℤ pos (whole_work k i j 0))
    ((p : Piece) × (pieces_of s j 0 ≡ p ∷ []) × IsWholeWork k i s.unit p)) (sym cut) adds_up)

module _ (i : Instance) (unit : ℕ) (ps : List Piece) (laid : AreLaid i unit ps) where
  abbrev s : Schedule
  s = record { unit = pos unit; pieces = ps }

  -- on identical machines the pieces of a job add up to its work
  pub laid_adds_up : (j : ℕ) → work_of job_of start finish ps j ≡ unit * time_at i j → total (map (part_of Identical i) (pieces_of s j 0)) ≡ pos unit *ℤ pos (time_at i j)
  laid_adds_up j work =
      ap (λ l. total (map (part_of Identical i) l)) (pieces_of-job s j laid.ops)
      ∙ total_lengths _ (All-filter (λ p. p.job == j) IsTimed ps laid.timed)
      ∙ ap pos work

  module _ (one : HasOneOperation i) where
    placed : All (HasPlace i) ps
    placed k d l = by (get_or ps k d) (laid.jobs k d l) (laid.ops k d l) (laid.inside k d l)
      where
        by : (p : Piece) → p.job < length i.jobs → p.op ≡ 0 → p.machine < i.machines → HasPlace i p
        by p j o m = record {
          job = j;
          operation = subst (λ x. HasOperation (kind_of i.class.env) i p.job x) (sym o) (one.operation p.job);
          machine = subst (λ x. MayRun (kind_of i.class.env) i p.job x p.machine) (sym o) (one.may_run p.job p.machine m);
        }

    released : All (λ p. (pos unit *ℤ pos (job_at i p.job).release) ≤ℤ p.from) ps
    released k d l = omega (arith, ints, (laid.timed k d l).from, laid.released k d l)

    pub laid_is_feasible : ((j : ℕ) → j < length i.jobs → GetsWork i s j 0) → Feasible i s
    laid_is_feasible gets = record {
      unit = omega (arith, ints, laid.some);
      span = λ k d l. let t = laid.timed k d l in (omega (arith, ints, t.from), omega (arith, ints, t.from, t.to, t.lasts));
      place = placed;
      machine = λ a b d m k e. apart_in_int _ _ (laid.timed a d (omega (arith, m, k))) (laid.timed b d k) (laid.machines a b d m k e);
      job = λ a b d m k e. apart_in_int _ _ (laid.timed a d (omega (arith, m, k))) (laid.timed b d k) (laid.apart a b d m k e);
      release = released;
      arc = laid.arcs;
      route = one.route ps;
      work = λ j o l h. subst (λ x. GetsWork i s j x) (sym (one.first j o h)) (gets j l);
    }

-- on identical machines, where jobs may be cut
pub cut_is_feasible : (i : Instance) (unit : ℕ) (ps : List Piece) → kind_of i.class.env ≡ Identical → i.class.cut ≡ true → AreLaid i unit ps
    → ((j : ℕ) → j < length i.jobs → work_of job_of start finish ps j ≡ unit * time_at i j) → Feasible i (record { unit = pos unit; pieces = ps })
cut_is_feasible i unit ps kind cut laid work = laid_is_feasible i unit ps laid (HasOneOperation-identical i kind)
    (λ j l. gets_in_parts Identical i (record { unit = pos unit; pieces = ps }) j kind cut (laid_adds_up i unit ps laid j (work j l)))
