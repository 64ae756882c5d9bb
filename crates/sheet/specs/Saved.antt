-- The registers that a frame saves, in the order of its list, and the sizes of its areas.
use Rattle.std.specs.Prelude.{ℕ, ◌+◌, ◌-◌, ◌*◌, ◌%◌, Bool, cond, ◌&&◌, ◌||◌, List, ◌++◌, map, length, filter, ◌==◌, nat_lt}
use Rattle.sheet.specs.Codes.{within, has}
use Rattle.sheet.specs.Walk.{ints}
use Rattle.sheet.specs.Plain.{PlainSheet, same, alike}
use Rattle.sheet.specs.declared.types.CallConv.{CallConv}
use Rattle.sheet.specs.declared.types.CallConv.TheVariants.{AppleAarch64, PreserveAll}
use Rattle.sheet.specs.declared.types.FunctionCalls.TheVariants.{Regular}
use Rattle.sheet.specs.declared.types.Flags.{Flags}

-- Compact unwinding on Apple's convention: registers are saved by pairs.
abbrev pub pairs : CallConv → Flags → Bool
pairs c f = same c AppleAarch64 && f.enable_compact_unwind_abi

-- The same of a sheet.
abbrev pub pairing : PlainSheet → Bool
pairing p = pairs p.conv p.flags

-- x19 to x28 and v8 to v15.
abbrev pub callee_saved : ℕ → Bool
callee_saved c = within 19 28 c || within 72 79 c

-- The other code of (x19,x20) to (x27,x28) and (v8,v9) to (v14,v15).
abbrev pub partner : ℕ → ℕ
partner c = cond (c % 2 == cond (nat_lt c 64) 1 0) (c + 1) (c - 1)

-- Whether the code c is saved, where the clobbers are cs: under PreserveAll every clobber, else the callee-saved ones, by pairs with their partners.
abbrev pub saves_by : CallConv → Flags → List ℕ → ℕ → Bool
saves_by v f cs c =
    cond (same v PreserveAll) (has cs c) (callee_saved c && (has cs c || (pairs v f && has cs (partner c))))

-- Whether the code c is saved.
abbrev pub saves : PlainSheet → ℕ → Bool
saves p c = saves_by p.conv p.flags p.clobbers c

-- The numbers of the saved integer registers, in the order of the list.
abbrev pub saved_ints_of : PlainSheet → List ℕ
saved_ints_of p = filter (saves p) (ints (pairing p))

-- The numbers of the saved vectors.
abbrev pub saved_vecs_of : PlainSheet → List ℕ
saved_vecs_of p = filter (λ r. saves p (64 + r)) (ints (pairing p))

-- The codes of the saved registers: integers before vectors.
abbrev pub saved_codes : PlainSheet → List ℕ
saved_codes p = saved_ints_of p ++ map (λ r. 64 + r) (saved_vecs_of p)

-- The next even number.
abbrev pub even : ℕ → ℕ
even n = n + n % 2

-- The bytes that these numbers of registers take: 8 for each, made even; a whole vector under PreserveAll takes 16.
abbrev pub size_by : CallConv → ℕ → ℕ → ℕ
size_by v ints vecs = 8 * even ints + cond (same v PreserveAll) (16 * vecs) (8 * even vecs)

-- The size of the save area.
abbrev pub clobber_size_of : PlainSheet → ℕ
clobber_size_of p = size_by p.conv (length (saved_ints_of p)) (length (saved_vecs_of p))

-- Whether FP and LR are pushed.
abbrev pub sets_up : PlainSheet → Bool
sets_up p =
    p.flags.preserve_frame_pointers || (alike p.calls Regular || (nat_lt 0 p.sizes.incoming || (nat_lt 0 p.sizes.tail
    || (nat_lt 0 (clobber_size_of p) || (nat_lt 0 p.sizes.fixed || nat_lt 0 p.sizes.outgoing)))))

-- The size of the setup area.
abbrev pub setup_size : PlainSheet → ℕ
setup_size p = cond (sets_up p) 16 0
