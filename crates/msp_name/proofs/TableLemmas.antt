-- The tables of texts: what stands in a row is what a look-up finds, and no text has a separator in it.
use Rattle.std.proofs.Common.{◌≡◌, ℕ, List, [], ◌∷◌, refl, sym, subst, Bool, true, false, cond, Some, Contains, bytes_eq, arith}
use Rattle.std.specs.List.{AllByRecursion}
use Rattle.std.proofs.lemmas.List.Elements.{All-from_recursion, All-contains, Contains-append_right}
use Rattle.std.proofs.lemmas.Slice.Eq.{bytes_eq-Decides}
use Rattle.msp_class.specs.declared.class.Env.{Env}
use Rattle.msp_class.specs.declared.class.Crit.{Crit}
use Rattle.msp_name.specs.declared.words.Item.{Item}
use Rattle.msp_name.specs.Spellings.{env_texts, item_texts, crit_texts}
use Rattle.msp_name.specs.Reading.{spelled}

by_row : {A : Type 0} (row : List ℕ × A) (rows : List (List ℕ × A)) (w : List ℕ) (x : A) (b : Bool)
    → bytes_eq w row.0 ≡ b → (spelled rows w ≡ Some x → Contains rows (w, x)) → cond b (Some row.1) (spelled rows w) ≡ Some x → Contains (row ∷ rows) (w, x)
by_row row rows w x true h k e =
    let t : w ≡ row.0 = (bytes_eq-Decides w row.0).0 h in
    let v : row.1 ≡ x = cc in
    let P : (List ℕ × _) → Type 0 = λ p. Contains (row ∷ rows) p in
    subst P (λ j. (sym t j, v j)) (0, omega arith, refl)
by_row row rows w x false h k e = Contains-append_right (row ∷ []) rows (w, x) (k e)

pub spelled-some : {A : Type 0} (rows : List (List ℕ × A)) (w : List ℕ) (x : A) → spelled rows w ≡ Some x → Contains rows (w, x)
spelled-some [] w x e = cc
spelled-some (row ∷ rows) w x e = by_row row rows w x (bytes_eq w row.0) refl (spelled-some rows w x) e

abbrev pub Finds : {A : Type 0} → List (List ℕ × A) → (List ℕ × A) → Type 0
Finds rows row = spelled rows row.0 ≡ Some row.1

all_found : {A : Type 0} (rs : List (List ℕ × A)) → AllByRecursion (Finds rs) rs → (w : List ℕ) (x : A) → Contains rs (w, x) → spelled rs w ≡ Some x
all_found rs finds w x h = All-contains (Finds rs) rs (w, x) (All-from_recursion (Finds rs) rs finds) h

pub env_spelled : (w : List ℕ) (x : Env) → Contains env_texts (w, x) → spelled env_texts w ≡ Some x
unfolding env_texts
env_spelled = all_found env_texts
    (refl, (refl, (refl, (refl, (refl, (refl, (refl, (refl, (refl, (refl, (refl, (refl, (refl, (refl, (refl, (refl, tt))))))))))))))))

pub item_spelled : (w : List ℕ) (x : Item) → Contains item_texts (w, x) → spelled item_texts w ≡ Some x
unfolding item_texts
item_spelled = all_found item_texts
    (refl, (refl, (refl, (refl, (refl, (refl, (refl, (refl, (refl, (refl, (refl, (refl, (refl, (refl, (refl, (refl, (refl, (refl, (refl, (refl, (refl, (refl, (refl, (refl, tt))))))))))))))))))))))))

pub crit_spelled : (w : List ℕ) (x : Crit) → Contains crit_texts (w, x) → spelled crit_texts w ≡ Some x
unfolding crit_texts
crit_spelled = all_found crit_texts
    (refl, (refl, (refl, (refl, (refl, (refl, (refl, (refl, (refl, (refl, (refl, (refl, (refl, (refl, (refl, (refl, (refl, (refl, tt))))))))))))))))))
