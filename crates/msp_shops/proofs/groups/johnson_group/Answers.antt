use Rattle.msp_shops.proofs.Grouped.{IsGroup-made, ties-made}
use Rattle.msp_shops.proofs.groups.johnson_group.Goals as goal

pub returns : goal.returns
returns c = record {
  group = IsGroup-made c.args.inst.now c.args.machine c.requires.shop _ _ c.in_ok-times.ensures c.in_ok-put_in_order.ensures.permutation;
  order = c.in_ok-put_in_order.ensures.sorted;
  ties = ties-made c.args.inst.now c.args.machine _ _ c.in_ok-times.ensures c.in_ok-put_in_order.ensures.sorted c.in_ok-put_in_order.ensures.stable;
}
