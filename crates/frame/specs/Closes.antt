-- Parts of an epilogue that functions of the code put.
use Rattle.std.specs.Prelude.{Bool, cond, not, ◌&&◌, List, [], ◌∷◌}
use Rattle.a64.specs.declared.inst.Inst.{Inst}
use Rattle.a64.specs.declared.inst.Modifier.{Modifier}
use Rattle.a64.specs.declared.inst.PairClass.{PairClass}
use Rattle.sheet.specs.Plain.{PlainSheet}
use Rattle.sheet.specs.Saved.{sets_up}
use Rattle.frame.specs.Forms.{pop_pair_of}
use Rattle.frame.specs.Pieces.{with_sp}

-- FP and LR popped.
abbrev pub frame_popped : PlainSheet → List Inst
frame_popped h = cond (sets_up h) (pop_pair_of PairClass.X 29 30 ∷ []) []

-- Check and return in one instruction.
abbrev pub combined : Modifier → Bool → Bool
combined m is_hint = with_sp m && not is_hint
