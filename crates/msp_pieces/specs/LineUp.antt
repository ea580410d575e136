-- The jobs of one machine in the order in which a schedule ends them, back to back.
use Rattle.std.specs.Prelude.{ℕ, ◌*◌, List, [], ◌∷◌, length, ℤ, pos, int_lt, if◌then◌else◌}
use Rattle.std.specs.List.{range_with_len}
use Rattle.msp_instance.specs.declared.Instance.{Instance}
use Rattle.msp_pieces.specs.declared.Schedule.{Schedule}
use Rattle.msp_pieces.specs.Cost.{end_of}
use Rattle.msp_pieces.specs.BackToBack.{back_to_back, piece, time_at}

-- The jobs on machine 0 back to back from moment 0 on, over the unit D.
abbrev pub lined_up : Instance → ℕ → List ℕ → Schedule
lined_up i D order = record { unit = pos D; pieces = back_to_back piece (λ j. D * time_at i j) 0 order }

-- The number put before the first one of at least its value; and numbers sorted by their values, in their old order where these are the same.
abbrev pub insert_by : (ℕ → ℤ) → ℕ → List ℕ → List ℕ
insert_by f x [] = x ∷ []
insert_by f x (y ∷ ys) = if int_lt (f y) (f x) then y ∷ insert_by f x ys else x ∷ y ∷ ys

abbrev pub sorted_by : (ℕ → ℤ) → List ℕ → List ℕ
sorted_by f [] = []
sorted_by f (x ∷ xs) = insert_by f x (sorted_by f xs)

-- All jobs in the order of their ends, ties by number.
abbrev pub order_of_ends : Instance → Schedule → List ℕ
order_of_ends i s = sorted_by (end_of s) (range_with_len 0 (length i.jobs))
