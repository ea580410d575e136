-- How precedence constraints turn when time runs backwards.
use Rattle.msp_class.specs.declared.class.Order.{Order}
use Rattle.msp_class.specs.declared.class.Order.TheVariants.{Free, Chains, Intree, Outtree, Prec}

-- the order of the same jobs when every arc has its ends exchanged
abbrev pub turned : Order → Order
turned Free = Free
turned Chains = Chains
turned Intree = Outtree
turned Outtree = Intree
turned Prec = Prec
