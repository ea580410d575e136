-- What rows do to the kinds of machines.
use Rattle.std.proofs.Common.{◌≡◌, ℕ, Bool, true, false, List, [], ◌∷◌, ◌&&◌, eqb, cond, Some, None, refl, sym, ap, subst, ◌∙◌}
use Rattle.std.specs.List.{list_all}
use Rattle.std.specs.Prelude.{option_and_then, not, ◌||◌}
use Rattle.std.proofs.lemmas.Bool.{and_parts}
use Rattle.msp_class.specs.declared.environments.EnvKind.{EnvKind}
use Rattle.msp_class.specs.declared.environments.EnvKind.TheVariants.{OpenShop}
use Rattle.msp_class.specs.Env.{kind_of}
use Rattle.msp_class.specs.Rank.{env_number}
use Rattle.msp_class.specs.declared.class.Class.{Class}
use Rattle.msp_class.specs.declared.class.Env.{Env}
use Rattle.msp_class.specs.declared.class.Env.TheVariants.{One}
use Rattle.msp_table.specs.Parts.{Part, EnvIs, has, has_all, with_part, with_all}
use Rattle.msp_table.specs.Rows.{RowRule, table, row_of, applies, led_to, goes_by, goes_of}
use Rattle.msp_table.proofs.RowLemmas.{find_passes}
use Rattle.msp_table.proofs.ChainLemmas.{some_one}

-- the environment after parts are replaced
env_with : Part → Env → Env
env_with (EnvIs f) e = f
env_with _ e = e

env_after : List Part → Env → Env
env_after [] e = e
env_after (p ∷ ps) e = env_after ps (env_with p e)

with_part-env : (p : Part) (c : Class) → (with_part p c).env ≡ env_with p c.env
unfolding env_with
with_part-env (EnvIs f) c = refl
with_part-env _ c = refl

with_all-env : (ps : List Part) (c : Class) → (with_all ps c).env ≡ env_after ps c.env
unfolding env_after
with_all-env [] c = refl
with_all-env (p ∷ ps) c = with_all-env ps (with_part p c) ∙ ap (env_after ps) (with_part-env p c)

-- whether a class of the environment may have the parts
suits_part : Part → Env → Bool
suits_part (EnvIs f) e = eqb (env_number e) (env_number f)
suits_part _ e = true

suits : List Part → Env → Bool
suits [] e = true
suits (p ∷ ps) e = suits_part p e && suits ps e

suits_part-has : (p : Part) (c : Class) → has c p ≡ true → suits_part p c.env ≡ true
unfolding suits_part
suits_part-has (EnvIs f) c h = h
suits_part-has _ c h = refl

both_true : (a b : Bool) → a ≡ true → b ≡ true → a && b ≡ true
both_true a b h i = cc

suits-has : (ps : List Part) (c : Class) → has_all c ps ≡ true → suits ps c.env ≡ true
unfolding suits
suits-has [] c h = refl
suits-has (p ∷ ps) c h =
    let parts = and_parts (has c p) (has_all c ps) h in
    both_true (suits_part p c.env) (suits ps c.env) (suits_part-has p c parts.0) (suits-has ps c parts.1)

-- from open shops a row leads to open shops
stays : EnvKind → EnvKind → Bool
stays OpenShop OpenShop = true
stays OpenShop _ = false
stays _ _ = true

row_stays : Env → RowRule → Bool
row_stays e r = not (suits r.left e) || stays (kind_of e) (kind_of (env_after r.right e))

table-stays : (e : Env) → list_all (row_stays e) table ≡ true
unfolding table row_stays stays suits suits_part env_after env_with
table-stays One = refl
table-stays _ = refl

stays-from_row : (a b : Bool) → not a || b ≡ true → a ≡ true → b ≡ true
stays-from_row a b h e = cc

led : (k : ℕ) (a c : Class) (r : RowRule) → row_of k ≡ Some r → goes_by r a ≡ Some c → stays (kind_of a.env) (kind_of c.env) ≡ true
unfolding row_stays
led k a c r found goes = by (applies r a) refl
  where
    by : (b : Bool) → applies r a ≡ b → stays (kind_of a.env) (kind_of c.env) ≡ true
    by false e = let none : None ≡ Some c = subst (λ b. cond b (Some (led_to r a)) None ≡ Some c) e goes in cc
    by true e =
        let same : led_to r a ≡ c = some_one (subst (λ b. cond b (Some (led_to r a)) None ≡ Some c) e goes) in
        let fits = suits-has r.left a (and_parts (has_all a r.left) (r.given a) e).0 in
        let test = (find_passes (λ s. eqb s.number k) (row_stays a.env) table r (table-stays a.env) found).1 in
        subst (λ f. stays (kind_of a.env) (kind_of f) ≡ true) (sym (with_all-env r.right _) ∙ ap (λ x. x.env) same) (stays-from_row _ _ test fits)

goes-stays : (k : ℕ) (a c : Class) → goes_of k a ≡ Some c → stays (kind_of a.env) (kind_of c.env) ≡ true
unfolding goes_of
goes-stays k a c goes =
    elim (row_of k) as (λ o. row_of k ≡ o → option_and_then (λ r. goes_by r a) o ≡ Some c → stays (kind_of a.env) (kind_of c.env) ≡ true) [
      | None ↦ λ is none. cc
      | Some r ↦ λ is some. led k a c r is some
    ] refl goes

open-stays : (k l : EnvKind) → stays k l ≡ true → k ≡ OpenShop → l ≡ OpenShop
unfolding stays
open-stays OpenShop OpenShop h e = refl
open-stays _ _ h e = cc

-- no row leaves open shops
pub open_shops-stay : (k : ℕ) (a c : Class) → goes_of k a ≡ Some c → kind_of a.env ≡ OpenShop → kind_of c.env ≡ OpenShop
open_shops-stay k a c goes e = open-stays (kind_of a.env) (kind_of c.env) (goes-stays k a c goes) e
