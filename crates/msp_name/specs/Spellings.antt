-- The texts of the parts of a name, as tables: each accepted text beside what it stands for.
use Rattle.std.specs.Prelude.{ℕ, List, [], ◌∷◌, codes}
use Rattle.msp_class.specs.declared.class.Env.{Env}
use Rattle.msp_class.specs.declared.class.Env.TheVariants as e
use Rattle.msp_class.specs.declared.class.Crit.{Crit}
use Rattle.msp_class.specs.declared.class.Crit.TheVariants as k
use Rattle.msp_name.specs.declared.words.Item.{Item}
use Rattle.msp_name.specs.declared.words.Item.TheVariants as i

-- the environments; J2 and J also stand for themselves with the item n<=2
unfoldable pub env_texts : List (List ℕ × Env)
env_texts =
    (codes "1", e.One)
    ∷ (codes "P2", e.P2)
    ∷ (codes "P3", e.P3)
    ∷ (codes "P", e.P)
    ∷ (codes "Q2", e.Q2)
    ∷ (codes "Q", e.Q)
    ∷ (codes "R2", e.R2)
    ∷ (codes "R", e.R)
    ∷ (codes "O2", e.O2)
    ∷ (codes "O3", e.O3)
    ∷ (codes "O", e.O)
    ∷ (codes "F2", e.F2)
    ∷ (codes "F3", e.F3)
    ∷ (codes "F", e.F)
    ∷ (codes "J2", e.J2)
    ∷ (codes "J", e.J)
    ∷ []

-- the items, the canonical text of each first
unfoldable pub item_texts : List (List ℕ × Item)
item_texts =
    (codes "pmtn", i.Cut)
    ∷ (codes "chains", i.Chains)
    ∷ (codes "chain", i.Chains)
    ∷ (codes "intree", i.Intree)
    ∷ (codes "in-tree", i.Intree)
    ∷ (codes "outtree", i.Outtree)
    ∷ (codes "out-tree", i.Outtree)
    ∷ (codes "prec", i.Prec)
    ∷ (codes "r", i.Heads)
    ∷ (codes "r_j", i.Heads)
    ∷ (codes "rj", i.Heads)
    ∷ (codes "p=1", i.Unit)
    ∷ (codes "p_j=1", i.Unit)
    ∷ (codes "pj=1", i.Unit)
    ∷ (codes "p_ij=1", i.Unit)
    ∷ (codes "pij=1", i.Unit)
    ∷ (codes "p=p", i.Equal)
    ∷ (codes "p_j=p", i.Equal)
    ∷ (codes "pj=p", i.Equal)
    ∷ (codes "p_ij=p", i.Equal)
    ∷ (codes "pij=p", i.Equal)
    ∷ (codes "n<=2", i.Short)
    ∷ (codes "n_j<=2", i.Short)
    ∷ (codes "nj<=2", i.Short)
    ∷ []

-- the criteria, the canonical text of each first
unfoldable pub crit_texts : List (List ℕ × Crit)
crit_texts =
    (codes "Cmax", k.Cmax)
    ∷ (codes "C_max", k.Cmax)
    ∷ (codes "Lmax", k.Lmax)
    ∷ (codes "L_max", k.Lmax)
    ∷ (codes "fmax", k.Fmax)
    ∷ (codes "f_max", k.Fmax)
    ∷ (codes "sumC", k.SumC)
    ∷ (codes "sumC_j", k.SumC)
    ∷ (codes "sumwC", k.SumWC)
    ∷ (codes "sumw_jC_j", k.SumWC)
    ∷ (codes "sumU", k.SumU)
    ∷ (codes "sumU_j", k.SumU)
    ∷ (codes "sumwU", k.SumWU)
    ∷ (codes "sumw_jU_j", k.SumWU)
    ∷ (codes "sumT", k.SumT)
    ∷ (codes "sumT_j", k.SumT)
    ∷ (codes "sumwT", k.SumWT)
    ∷ (codes "sumw_jT_j", k.SumWT)
    ∷ []
