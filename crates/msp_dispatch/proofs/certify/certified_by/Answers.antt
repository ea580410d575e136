use Rattle.std.proofs.Common.{refl, ap, ◌∙◌, arith}
use Rattle.msp_instance.proofs.Limits.{Inner-from_class}
use Rattle.msp_dispatch.specs.declared.certify.Maker.TheVariants as maker
use Rattle.msp_dispatch.specs.Shown.{class_of}
use Rattle.msp_dispatch.proofs.evidence.GroupCosts.{IsTriedValue-wrap, IsTriedValue-uniform}
use Rattle.msp_dispatch.proofs.evidence.ShopLines.{IsTriedValue-open_cut, IsTriedValue-open}
use Rattle.msp_dispatch.proofs.evidence.JobLevels.{IsTriedValue-levels}
use Rattle.msp_dispatch.proofs.evidence.Certified.{searched_class, IsCertifiable-made}
use Rattle.msp_dispatch.proofs.certify.certified_by.Goals as goal

pub solve-requires-clause-inner : goal.solve-requires-clause-inner
solve-requires-clause-inner c = Inner-from_class c.args.inst.now c.requires.inside

pub searched-requires-clause-listed : goal.searched-requires-clause-listed
searched-requires-clause-listed c = IsCertifiable-made c.args.inst.now c.args.maker c.requires.class c.requires.fits

pub searched-requires-clause-first : goal.searched-requires-clause-first
searched-requires-clause-first c = searched_class c.args.inst.now.class (class_of maker.Wrap) (c.requires.class ∙ ap class_of c.in-Wrap.is) (0, omega arith, refl)

pub searched-requires-clause-tried : goal.searched-requires-clause-tried
searched-requires-clause-tried c =
    IsTriedValue-wrap c.args.inst.now c.requires.inside (c.requires.class ∙ ap class_of c.in-Wrap.is) c.in_ok-solve-in-Wrap.field-0.cost c.in_ok-solve-in-Wrap.ensures.cost

pub solve-requires-in-UniformCut-clause-inner : goal.solve-requires-in-UniformCut-clause-inner
solve-requires-in-UniformCut-clause-inner c = Inner-from_class c.args.inst.now c.requires.inside

pub searched-requires-in-UniformCut-clause-listed : goal.searched-requires-in-UniformCut-clause-listed
searched-requires-in-UniformCut-clause-listed c = IsCertifiable-made c.args.inst.now c.args.maker c.requires.class c.requires.fits

pub searched-requires-in-UniformCut-clause-first : goal.searched-requires-in-UniformCut-clause-first
searched-requires-in-UniformCut-clause-first c = searched_class c.args.inst.now.class (class_of maker.UniformCut) (c.requires.class ∙ ap class_of c.in-UniformCut.is) (1, omega arith, refl)

pub searched-requires-in-UniformCut-clause-tried : goal.searched-requires-in-UniformCut-clause-tried
searched-requires-in-UniformCut-clause-tried c =
    IsTriedValue-uniform c.args.inst.now c.requires.inside (c.requires.class ∙ ap class_of c.in-UniformCut.is) c.in_ok-solve-in-UniformCut.field-0.cost c.in_ok-solve-in-UniformCut.ensures.cost

pub solve-requires-in-OpenCut-clause-inner : goal.solve-requires-in-OpenCut-clause-inner
solve-requires-in-OpenCut-clause-inner c = Inner-from_class c.args.inst.now c.requires.inside

pub searched-requires-in-OpenCut-clause-listed : goal.searched-requires-in-OpenCut-clause-listed
searched-requires-in-OpenCut-clause-listed c = IsCertifiable-made c.args.inst.now c.args.maker c.requires.class c.requires.fits

pub searched-requires-in-OpenCut-clause-first : goal.searched-requires-in-OpenCut-clause-first
searched-requires-in-OpenCut-clause-first c = searched_class c.args.inst.now.class (class_of maker.OpenCut) (c.requires.class ∙ ap class_of c.in-OpenCut.is) (2, omega arith, refl)

pub searched-requires-in-OpenCut-clause-tried : goal.searched-requires-in-OpenCut-clause-tried
searched-requires-in-OpenCut-clause-tried c =
    IsTriedValue-open_cut c.args.inst.now c.in_ok-solve-in-OpenCut.field-0.cost c.requires.inside (c.requires.class ∙ ap class_of c.in-OpenCut.is) c.in_ok-solve-in-OpenCut.ensures.cost

pub solve-requires-in-Open2-clause-inner : goal.solve-requires-in-Open2-clause-inner
solve-requires-in-Open2-clause-inner c = Inner-from_class c.args.inst.now c.requires.inside

pub searched-requires-in-Open2-clause-listed : goal.searched-requires-in-Open2-clause-listed
searched-requires-in-Open2-clause-listed c = IsCertifiable-made c.args.inst.now c.args.maker c.requires.class c.requires.fits

pub searched-requires-in-Open2-clause-first : goal.searched-requires-in-Open2-clause-first
searched-requires-in-Open2-clause-first c = searched_class c.args.inst.now.class (class_of maker.Open2) (c.requires.class ∙ ap class_of c.in-Open2.is) (3, omega arith, refl)

pub searched-requires-in-Open2-clause-tried : goal.searched-requires-in-Open2-clause-tried
searched-requires-in-Open2-clause-tried c =
    IsTriedValue-open c.args.inst.now c.in_ok-solve-in-Open2.field-0.cost c.requires.inside (c.requires.class ∙ ap class_of c.in-Open2.is) c.in_ok-solve-in-Open2.ensures.cost

pub solve-requires-in-Levels-clause-inner : goal.solve-requires-in-Levels-clause-inner
solve-requires-in-Levels-clause-inner c = Inner-from_class c.args.inst.now c.requires.inside

pub searched-requires-in-Levels-clause-listed : goal.searched-requires-in-Levels-clause-listed
searched-requires-in-Levels-clause-listed c = IsCertifiable-made c.args.inst.now c.args.maker c.requires.class c.requires.fits

pub searched-requires-in-Levels-clause-first : goal.searched-requires-in-Levels-clause-first
searched-requires-in-Levels-clause-first c = searched_class c.args.inst.now.class (class_of maker.Levels) (c.requires.class ∙ ap class_of c.in-Levels.is) (4, omega arith, refl)

pub searched-requires-in-Levels-clause-tried : goal.searched-requires-in-Levels-clause-tried
searched-requires-in-Levels-clause-tried c =
    IsTriedValue-levels c.args.inst.now c.requires.inside (c.requires.class ∙ ap class_of c.in-Levels.is) c.in_ok-solve-in-Levels.field-0.cost c.in_ok-solve-in-Levels.ensures.cost
