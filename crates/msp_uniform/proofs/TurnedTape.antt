-- A job on the tape that the rest of the last place is too little for: it takes that rest, and more of the place before it.
use Rattle.std.proofs.Common.{◌≡◌, ℕ, suc, ◌+◌, ◌*◌, ◌-◌, ◌<◌, ◌≤◌, false, List, [], ◌∷◌, ◌++◌, length, All, sym, subst, add-one, arith}
use Rattle.std.specs.Int.{◌∣◌}
use Rattle.std.proofs.Math.Nat.{one-le-mul, dvd-sub}
use Rattle.std.proofs.lemmas.List.{length-append}
use Rattle.std.proofs.lemmas.Nat.Gcd.{dvd-zero}
use Rattle.std.proofs.lemmas.List.Elements.{All-head}
use Rattle.msp_class.proofs.Sums.{sum_by-append}
use Rattle.msp_uniform.specs.declared.segments.Segment.{Segment}
use Rattle.msp_uniform.specs.declared.task.Task.{Task}
use Rattle.msp_uniform.specs.Segments.{at, IsSegment, IsAbsent, rate_at, amount, AreLaid}
use Rattle.msp_uniform.specs.Plans.{IsTask, IsTaped, DoHold, CanBeLaid}
use Rattle.msp_uniform.proofs.OrderFacts.{AreWhole-first}
use Rattle.msp_uniform.proofs.LaidFacts.{few_parts}
use Rattle.msp_uniform.proofs.LaidAt.{IsLaidAt, laid_at}
use Rattle.msp_uniform.proofs.TapeTurn.{IsTape-turn}
use Rattle.msp_uniform.proofs.TapeWhole.{last_can_gain, IsWholeTape-turn}
use Rattle.msp_uniform.proofs.TapedFacts.{divides, tape_inside, each_of, fine, be_laid, laid_late, none_left}

module _ (t : Task) (k : IsTask t) (j : ℕ) (left : List ℕ) (unit g : ℕ) (early late : List Segment)
    (r : IsTaped t (j ∷ left) unit (suc g) early late) (long : amount (rate_at (at t.speeds.items) (suc g)) late < unit * at t.times.items j) where
  abbrev speeds : List ℕ
  speeds = t.speeds.items

  abbrev n : ℕ
  n = length t.times.items

  abbrev rest : ℕ
  rest = amount (rate_at (at speeds) (suc g)) late

  abbrev more : ℕ
  more = unit * at t.times.items j - rest

  each : All (IsSegment (length speeds) n (at speeds) (suc (suc g))) late
  each = each_of t k j left unit (suc g) early late r

  more_fine : t.multiple ∣ more
  more_fine = dvd-sub t.multiple (fine t k j left unit (suc g) early late r) r.whole.more

  enough : more ≤ amount (rate_at (at speeds) g) early
  enough = omega (arith, long, All-head (λ i. unit * at t.times.items i ≤ amount (rate_at (at speeds) g) early + rest) j left (r.tape.short g (sym (add-one g))))

  pub over_late : CanBeLaid speeds (suc g) rest late
  over_late = be_laid t k j left unit (suc g) early late r (suc g) rest late each (omega (arith, r.tape.whole))
      (last_can_gain speeds n t.multiple (divides t k) (suc g) late each r.whole.before rest r.whole.divided r.whole.more r.whole.here (omega arith))

  pub over_early : CanBeLaid speeds g more early
  over_early = be_laid t k j left unit (suc g) early late r g more early r.tape.each_early (omega (arith, r.tape.whole))
      (last_can_gain speeds n t.multiple (divides t k) g early r.tape.each_early 0 more (dvd-zero t.multiple) more_fine
      (AreWhole-first (rate_at (at speeds) g) 0 early late (r.whole.below g (omega arith))) enough)

  module _ (firsts none seconds early' : List Segment)
      (laid : AreLaid false (at speeds) j (suc g) rest 0 late firsts none) (also : AreLaid false (at speeds) j g more 0 early early' seconds) where
    rest_laid : IsLaidAt (length speeds) n (at speeds) (suc g) j rest late firsts none
    rest_laid = laid_late t k j left unit (suc g) early late r rest firsts none laid

    -- nothing of the rest of the last place is left
    whole_laid : IsLaidAt (length speeds) n (at speeds) (suc g) j rest late firsts []
    whole_laid = subst (IsLaidAt (length speeds) n (at speeds) (suc g) j rest late firsts) (none_left (rate_at (at speeds) (suc g)) none
        (λ i d l. let s = rest_laid.seconds i d l in one-le-mul s.lasts ((divides t k _ 0 (s.machines (suc g) (omega arith))).0)) (omega (arith, rest_laid.rest))) rest_laid

    also_laid : IsLaidAt (length speeds) n (at speeds) g j more early early' seconds
    also_laid = laid_at (length speeds) n (at speeds) g j more early early' seconds
        (tape_inside t k j left unit (suc g) early late r) r.tape.each_early (All-head (λ i. All (IsAbsent (length speeds) i) early) j left r.tape.absent_early) also

    pub over_taped : IsTaped t left unit g early' (seconds ++ firsts)
    over_taped = record {
      end = r.end;
      tape = IsTape-turn speeds n (at t.times.items) j left unit r.end g rest more early late early' seconds firsts r.tape whole_laid also_laid (omega (arith, long));
      whole = IsWholeTape-turn speeds n t.multiple (divides t k) g j rest more early late early' seconds firsts r.tape.each_early each whole_laid also_laid r.whole more_fine;
      fine = r.fine;
      within = r.within;
      few = omega (arith, length-append seconds firsts, r.few, few_parts _ _ laid.few, few_parts _ _ also.few);
    }

    -- what each place can do stays the same, and of what the place before holds more is done
    pub over_held : (holds : List ℕ) → DoHold speeds holds (suc g) early late
        → DoHold speeds holds g early' (seconds ++ firsts) × (g < length holds) × (at holds g ≡ amount (rate_at (at speeds) g) (seconds ++ firsts) + more)
    over_held holds d = (
      record {
        many = omega (arith, d.many);
        each = λ i l. omega (arith, d.each i (omega (arith, l)), also_laid.places i l, whole_laid.places i (omega (arith, l)), both i);
      },
      omega (arith, d.many),
      omega (arith, d.each g (omega arith), also_laid.rest, whole_laid.places g (omega arith), both g),
    )
      where
        both : (i : ℕ) → amount (rate_at (at speeds) i) (seconds ++ firsts) ≡ amount (rate_at (at speeds) i) seconds + amount (rate_at (at speeds) i) firsts
        both i = sum_by-append (λ y. y.length * rate_at (at speeds) i y) seconds firsts
