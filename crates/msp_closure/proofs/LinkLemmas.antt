-- The list of links: how it grows, and that it has every step.
use Rattle.std.proofs.Common.{◌≡◌, ◌⊎◌, ℕ, ◌+◌, Bool, List, [], ◌∷◌, ◌++◌, Some, get_or, ap, ap₂, sym, ◌∙◌, subst, inl, inr, arith}
use Rattle.std.specs.Prelude.{Contains}
use Rattle.std.proofs.lemmas.Bool.{cases_eq}
use Rattle.std.proofs.lemmas.List.Elements.{Contains-get_or, Contains-push, Contains-push_cases, Contains-append_left}
use Rattle.msp_class.specs.declared.class.Class.{Class}
use Rattle.msp_class.specs.Rank.{rank_of}
use Rattle.msp_class.proofs.RankLemmas.{rank_of-below}
use Rattle.msp_closure.specs.declared.links.Link.{Link}
use Rattle.msp_closure.specs.Links.{link, AreInside, IsStep, AreLinks, AddsLinks, AddsLink}
use Rattle.msp_closure.specs.Walk.{step_of}
use Rattle.msp_closure.proofs.StepLemmas.{step_of-numbered}
use Rattle.msp_closure.proofs.TableLemmas.{below_next}

-- a link from rank to rank
pub same_ends : (c x : Class) (from to : ℕ) → from ≡ rank_of c → to ≡ rank_of x → record { from = from; to = to } ≡ link c x
same_ends c x from to e f = ap₂ (λ m n. record { from = m; to = n }) e f

-- the step by a row is added
pub AddsLink-step : (usable : ℕ → Bool) (before after : List Link) (c x : Class) (row : ℕ) (l : Link) → after ≡ before ++ l ∷ [] → l ≡ link c x
    → step_of usable row c ≡ Some x → AddsLink usable before after c row
AddsLink-step usable before after c x row l e same steps =
    subst (λ (ls : List Link). AddsLink usable before ls c row) (sym e) (record {
      keeps = λ m has. Contains-append_left before (l ∷ []) m has;
      sound = λ m has. elim (Contains-push_cases before l m has) as (λ _. Contains before m ⊎ IsStep usable m) [
        | inl old ↦ inl old
        | inr new ↦ inr (record { row = row; start = c; next = x; steps = steps; joins = sym new ∙ same })
      ];
      all = λ y goes.
          let both : Some x ≡ Some y = sym steps ∙ goes in
          let is : x ≡ y = cc in
          subst (Contains (before ++ l ∷ [])) (same ∙ ap (link c) is) (Contains-push before l);
    })

-- no row is below 1
pub AddsLinks-start : (usable : ℕ → Bool) (ls : List Link) (c : Class) → AddsLinks usable ls ls c 1
AddsLinks-start usable ls c = record {
  keeps = λ l has. has;
  sound = λ l has. inl has;
  all = λ k x below steps. absurd (omega (arith, (step_of-numbered usable k c x steps).0));
}

pub AddsLinks-next : (usable : ℕ → Bool) (before middle after : List Link) (c : Class) (k row : ℕ) → row ≡ k → AddsLink usable middle after c row
    → AddsLinks usable before middle c k → AddsLinks usable before after c (k + 1)
AddsLinks-next usable before middle after c k row at one a = record {
  keeps = λ l has. one.keeps l (a.keeps l has);
  sound = λ l has. elim (one.sound l has) as (λ _. Contains before l ⊎ IsStep usable l) [
    | inl old ↦ a.sound l old
    | inr new ↦ inr new
  ];
  all = λ j x below steps. elim (cases_eq j k) as (λ _. Contains after (link c x)) [
    | inl same ↦ one.all x (let P : ℕ → Type 0 = λ i. step_of usable i c ≡ Some x in subst P (same ∙ sym at) steps)
    | inr apart ↦ one.keeps (link c x) (a.all j x (below_next j k below apart) steps)
  ];
}

-- the ends of a step are ranks of classes
pub AreInside-links : (usable : ℕ → Bool) (starts : List Class) (ls : List Link) → AreLinks usable starts ls → AreInside ls
AreInside-links usable starts ls are = λ j d below.
    let s = are.sound (get_or ls j d) (Contains-get_or ls j d below) in
    let from : (get_or ls j d).from ≡ rank_of s.start = ap (λ l. l.from) s.joins in
    let to : (get_or ls j d).to ≡ rank_of s.next = ap (λ l. l.to) s.joins in
    (omega (arith, rank_of-below s.start), omega (arith, rank_of-below s.next))
