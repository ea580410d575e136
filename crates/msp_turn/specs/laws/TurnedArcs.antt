-- Turned arcs keep what inner instances ask of arcs: degrees are exchanged, and a list that puts every arc forward does so reversed.
use Rattle.std.proofs.Common.{◌≡◌, ◌≢◌, ℕ, ◌-◌, ◌*◌, ◌<◌, Bool, List, length, get_or, reverse, All, Contains, Some, cond, sym, ap, ◌∙◌, arith}
use Rattle.std.specs.Prelude.{◌==◌, slice_get}
use Rattle.std.proofs.lemmas.List.{length-map, length-reverse, get_or-reverse}
use Rattle.std.proofs.lemmas.List.Elements.{All-map}
use Rattle.std.proofs.lemmas.Option.{slice_get-get_or, slice_get_within, get_or_from_slice_get}
use Rattle.msp_class.specs.declared.class.Order.{Order}
use Rattle.msp_class.specs.declared.class.Order.TheVariants.{Free, Chains, Intree, Outtree}
use Rattle.msp_class.specs.declared.class.Crit.{Crit}
use Rattle.msp_class.specs.Order.{turned}
use Rattle.msp_class.specs.Env.{kind_of}
use Rattle.msp_class.proofs.Sums.{sum_by-map}
use Rattle.msp_class.specs.declared.sizes.TheConstants.{GREATEST}
use Rattle.msp_instance.specs.declared.Arc.{Arc}
use Rattle.msp_instance.specs.declared.Job.{Job}
use Rattle.msp_instance.specs.declared.Instance.{Instance}
use Rattle.msp_instance.specs.Conditions.{MeetsConditions, IsJobOf, HasArcs, HasDegree, HasNearDues, GoesForward, IsAcyclic, Inner, leaving, entering, inner_limits, inner_factor}
use Rattle.msp_pieces.proofs.changes.Moves.{AllPairs-map}
use Rattle.msp_turn.specs.Turned.{turned_arc, turned_arcs}

-- ---- degrees
leaving-turned : (arcs : List Arc) (j : ℕ) → leaving (turned_arcs arcs) j ≡ entering arcs j
leaving-turned arcs j = sum_by-map (λ a. cond (a.before == j) 1 0) turned_arc arcs

entering-turned : (arcs : List Arc) (j : ℕ) → entering (turned_arcs arcs) j ≡ leaving arcs j
entering-turned arcs j = sum_by-map (λ a. cond (a.after == j) 1 0) turned_arc arcs

HasDegree-turned : (o : Order) (arcs : List Arc) (j : ℕ) → HasDegree o arcs j → HasDegree (turned o) (turned_arcs arcs) j
HasDegree-turned Chains arcs j h = (omega (arith, h.1, leaving-turned arcs j), omega (arith, h.0, entering-turned arcs j))
HasDegree-turned Intree arcs j h = omega (arith, h, entering-turned arcs j)
HasDegree-turned Outtree arcs j h = omega (arith, h, leaving-turned arcs j)
HasDegree-turned _ arcs j h = tt

HasArcs-turned : (o : Order) (arcs : List Arc) → HasArcs o arcs → HasArcs (turned o) (turned_arcs arcs)
HasArcs-turned Free arcs h = ap turned_arcs h
HasArcs-turned _ arcs h = omega (arith, h, length-map arcs turned_arc)

-- ---- the list read from its end
read_back : (xs : List ℕ) (p x : ℕ) → p < length xs → get_or xs p x ≡ x → slice_get (reverse xs) (length xs - 1 - p) ≡ Some x
read_back xs p x l e =
    slice_get-get_or (reverse xs) (length xs - 1 - p) x (omega (arith, length-reverse xs))
    ∙ ap Some (get_or-reverse xs (length xs - 1 - p) x (omega arith) ∙ ap (λ k. get_or xs k x) (same (length xs) p l) ∙ e)
  where
    same : (n p : ℕ) → p < n → n - 1 - (n - 1 - p) ≡ p
    same n p l = omega arith

GoesForward-turned : (order : List ℕ) (a : Arc) → GoesForward order a → GoesForward (reverse order) (turned_arc a)
GoesForward-turned order a (p, q, less, before, after) =
    let l : q < length order = slice_get_within order q a.after after in (
      length order - 1 - q,
      length order - 1 - p,
      omega arith,
      read_back order q a.after l (get_or_from_slice_get order q a.after a.after after),
      read_back order p a.before (omega arith) (get_or_from_slice_get order p a.before a.before before),
    )

Contains-reverse : (xs : List ℕ) (x : ℕ) → Contains xs x → Contains (reverse xs) x
Contains-reverse xs x (p, l, e) =
    let back : length xs - 1 - p < length (reverse xs) = omega (arith, length-reverse xs) in
    (length xs - 1 - p, back, get_or_from_slice_get (reverse xs) (length xs - 1 - p) x x (read_back xs p x l e))

-- ---- instances
-- the instance with its arcs turned and with other jobs, in a class with other release dates and another criterion
abbrev pub turned_with : Instance → Bool → Crit → List Job → Instance
turned_with i h c jobs = record i { class = record i.class { order = turned i.class.order; heads = h; crit = c }; jobs = jobs; arcs = turned_arcs i.arcs }

IsAcyclic-turned : (i : Instance) (h : Bool) (c : Crit) (jobs : List Job) → length jobs ≡ length i.jobs → IsAcyclic i → IsAcyclic (turned_with i h c jobs)
IsAcyclic-turned i h c jobs same (order, listed, forward) = (
  reverse order,
  record { whole = length-reverse order ∙ listed.whole ∙ sym same; each = λ j l. Contains-reverse order j (listed.each j (omega (arith, same))) },
  All-map (GoesForward (reverse order)) turned_arc i.arcs (λ k d l. GoesForward-turned order (get_or i.arcs k d) (forward k d l)),
)

pub Inner-turned : (i : Instance) (h : Bool) (c : Crit) (jobs : List Job) → length jobs ≡ length i.jobs →
    All (IsJobOf (inner_limits (kind_of i.class.env)) (turned_with i h c jobs)) jobs →
    HasNearDues (2 * GREATEST * inner_factor (kind_of i.class.env)) (turned_with i h c jobs) → Inner i → Inner (turned_with i h c jobs)
Inner-turned i h c jobs same own dues inner = record {
  conditions = record {
    some = omega (arith, same, was.some);
    few = omega (arith, same, was.few);
    machines = was.machines;
    speeds = was.speeds;
    multiple = was.multiple;
    jobs = own;
    arcs = HasArcs-turned i.class.order i.arcs was.arcs;
    ends = All-map (λ a. (a.before < length jobs) × (a.after < length jobs)) turned_arc i.arcs (λ k d l. let e = was.ends k d l in (omega (arith, same, e.1), omega (arith, same, e.0)));
    once = AllPairs-map (λ a b. a ≢ b) turned_arc i.arcs (λ j k d a b e. was.once j k d a b (ap turned_arc e));
    degree = λ j l. HasDegree-turned i.class.order i.arcs j (was.degree j (omega (arith, same)));
  };
  dues = dues;
  acyclic = IsAcyclic-turned i h c jobs same inner.acyclic;
}
  where
    was : MeetsConditions (inner_limits (kind_of i.class.env)) i
    was = inner.conditions
