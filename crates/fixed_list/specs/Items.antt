-- What a list in fixed cells holds.
use Rattle.std.specs.Prelude.{ℕ, cond, List, [], ◌∷◌, ◌++◌, length, take, Result, Ok, Err, nat_lt}
use Rattle.fixed_list.specs.declared.FixedList.{FixedList}

-- The elements, first to last.
abbrev pub items : {X : Type 0} {n : ℕ} → FixedList X n → List X
items l = take l.count l.cells

-- One more element behind the others, where a cell of n is free.
abbrev pub pushed : {X : Type 0} → ℕ → List X → X → List X
pushed n xs x = cond (nat_lt (length xs) n) (xs ++ x ∷ []) xs

-- What is handed back: nothing, or the element that has no cell.
abbrev pub push_answer : {X : Type 0} → ℕ → List X → X → Result Unit X
push_answer n xs x = cond (nat_lt (length xs) n) (Ok tt) (Err x)
