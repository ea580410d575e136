-- In which ranges drawn numbers lie.
use Rattle.std.proofs.Common.{◌≡◌, ℕ, zero, suc, ◌/◌, ◌<◌, ◌≤◌, Bool, true, false, pos, refl, arith}
use Rattle.std.proofs.lemmas.Nat.{mod_below}
use Rattle.std.proofs.lemmas.Int.{ints}
use Rattle.std.specs.Prelude.{⊤}
use Rattle.msp_class.specs.declared.class.Times.{Times}
use Rattle.msp_class.specs.declared.class.Times.TheVariants.{General, Unit as UnitTimes, Equal}
use Rattle.msp_instance.specs.Conditions.{text_limits, least_shop_time, HasRelease, HasDue, HasWeight}
use Rattle.msp_gen.specs.Draws.{next_seed, draw, draw_from_one, draw_where}
use Rattle.msp_gen.specs.Generated.{draw_shared_time, draw_some_time, draw_shop_time}

pub draw_below : (b s : ℕ) → 0 < b → (draw b s).value < b
draw_below b s l = mod_below (next_seed s / 65536) b l

-- a time that fits what all times share
abbrev pub IsShared : Times → ℕ → ℕ → Type 0
IsShared General shared time = ⊤
IsShared UnitTimes shared time = time ≡ 1
IsShared Equal shared time = time ≡ shared

-- the shared time is from 1 to 100, and 1 where times are unit times
pub record IsSharedTime (times : Times) (shared : ℕ) : Type 0 where
  pub some : 1 ≤ shared
  pub few : shared ≤ 100
  pub fits : IsShared times shared shared

pub shared_time : (times : Times) (s : ℕ) → IsSharedTime times (draw_shared_time times s).value
shared_time General s = record { some = omega arith; few = omega arith; fits = tt }
shared_time UnitTimes s = record { some = omega arith; few = omega arith; fits = refl }
shared_time Equal s = let l = draw_below 100 s (omega arith) in record { some = omega arith; few = omega (arith, l); fits = refl }

-- a drawn time
pub record IsTime (times : Times) (shared least time : ℕ) : Type 0 where
  pub least_met : least ≤ time
  pub few : time ≤ 100
  pub fits : IsShared times shared time

pub some_time : (times : Times) (shared s : ℕ) → IsSharedTime times shared → IsTime times shared 1 (draw_some_time times shared s).value
some_time General shared s h = let l = draw_below 100 s (omega arith) in record { least_met = omega arith; few = omega (arith, l); fits = tt }
some_time _ shared s h = record { least_met = h.some; few = h.few; fits = h.fits }

pub shop_time : (times : Times) (shared machine s : ℕ) → IsSharedTime times shared → IsTime times shared (least_shop_time times) (draw_shop_time times shared machine s).value
shop_time General shared zero s h = let l = draw_below 100 s (omega arith) in record { least_met = omega arith; few = omega (arith, l); fits = tt }
shop_time General shared (suc k) s h = let l = draw_below 101 s (omega arith) in record { least_met = omega arith; few = omega (arith, l); fits = tt }
shop_time Equal shared zero s h = record { least_met = h.some; few = h.few; fits = h.fits }
shop_time UnitTimes shared zero s h = record { least_met = omega arith; few = h.few; fits = h.fits }
shop_time _ shared k s h = record { least_met = omega (arith, h.some); few = h.few; fits = h.fits }

pub first_shop_time : (times : Times) (shared s : ℕ) → IsSharedTime times shared → 1 ≤ (draw_shop_time times shared 0 s).value
first_shop_time General shared s h = omega arith
first_shop_time _ shared s h = h.some

pub release : (has : Bool) (s : ℕ) → HasRelease text_limits has (draw_where has (draw 1000) 0 s).value
release true s = let l = draw_below 1000 s (omega arith) in omega (arith, l)
release false s = refl

pub due : (has : Bool) (s : ℕ) → HasDue text_limits has (pos (draw_where has (draw 1000) 0 s).value)
due true s = let l = draw_below 1000 s (omega arith) in (omega (arith, ints), omega (arith, ints, l))
due false s = refl

pub weight : (has : Bool) (s : ℕ) → HasWeight has (draw_where has (draw_from_one 100) 1 s).value
weight true s = let l = draw_below 100 s (omega arith) in (omega arith, omega (arith, l))
weight false s = refl
