-- Each worked frame by computing.
use mathlib.Core.Path.{refl}
use Rattle.sheet.specs.Walk.{ints}
use Rattle.layout.specs.Slots.{slots_of}
use Rattle.frame.specs.Pieces.{epilogue, prologue, tail_reload_of}
use Rattle.steps.specs.Adjust.{load_constant_of, sp_by_of}
use Rattle.steps.specs.Probes.{gen_inline_probestack_of}
use Rattle.worked.specs.Frames.{WorkedFrames}

pub computed : WorkedFrames
unfolding prologue epilogue slots_of ints sp_by_of load_constant_of gen_inline_probestack_of tail_reload_of
computed =
    record {
      c1 = refl;
      c1_back = refl;
      c2 = refl;
      c3 = refl;
      c4 = refl;
      c5 = refl;
      c6 = refl;
      c6_back = refl;
      c7 = refl;
      c7_notes = refl;
      c8 = refl;
      c8_all = refl;
      c9_none = refl;
      c9 = refl;
      c10 = refl;
    }
