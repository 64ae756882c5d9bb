-- Steps computed: each instruction once or more, with values from a separate model of the manual's pseudocode.
use Rattle.std.proofs.Common.{◌≡◌, ℕ, ◌+◌, ◌%◌, Bool, true, false, cond, ◌&&◌, ltb, leb, List, [], ◌∷◌, ℤ, pos, negsuc, refl}
use Rattle.a64.specs.declared.inst.AddSub.{AddSub}
use Rattle.a64.specs.declared.inst.Dir.{Dir}
use Rattle.a64.specs.declared.inst.PairClass.{PairClass}
use Rattle.a64.specs.declared.inst.PairMode.{PairMode}
use Rattle.a64.specs.declared.inst.Class.{Class}
use Rattle.a64.specs.declared.inst.Mode.{Mode}
use Rattle.a64.specs.declared.inst.MoveWideOp.{MoveWideOp}
use Rattle.a64.specs.declared.inst.Key.{Key}
use Rattle.a64.specs.declared.inst.Modifier.{Modifier}
use Rattle.a64.specs.declared.inst.Inst.TheVariants.{AddSubImm, AddSubExt, AddsShifted, Pair, Single, LdrUImm, LdrReg, StrWReg, SturW, MovWide, Paci, Auti, BtiC, Ret, RetAuth, BGt, Other}
use Rattle.machine.specs.Cores.{plain, sealing}
use Rattle.machine.specs.Machine.{State, Effect, next, branch, back, stop, put, load, store, all_mapped, plus, minus, step}

-- x0, x1, x2 and SP as given; from 4000 to 4999 memory is mapped, and holds its address mod 251
base : ℕ → ℕ → ℕ → ℕ → State
base a b c sp =
    record {
      x = put 0 a (put 1 b (put 2 c (λ r. 1000 + r)));
      sp = sp;
      lo = λ r. 2000 + r;
      hi = λ r. 3000 + r;
      flags = record { n = false; z = false; c = false; v = false };
      mem = λ a. a % 251;
      mapped = λ a. leb 4000 a && ltb a 5000;
    }

bit : Bool → ℕ
bit b = cond b 1 0

-- x0, x1, x2, x30, SP, v0, v1, 48 bytes from 4064, and the flags
fields : State → List ℕ
fields s =
    s.x 0 ∷ s.x 1 ∷ s.x 2 ∷ s.x 30 ∷ s.sp ∷ s.lo 0 ∷ s.hi 0 ∷ s.lo 1 ∷ s.hi 1 ∷ load 8 4064 s.mem ∷ load 8 4072 s.mem ∷ load 8 4080 s.mem
    ∷ load 8 4088 s.mem ∷ load 8 4096 s.mem ∷ load 8 4104 s.mem ∷ bit s.flags.n ∷ bit s.flags.z ∷ bit s.flags.c ∷ bit s.flags.v ∷ []

size : ℤ → ℕ
size (pos n) = n
size (negsuc n) = n

seen : Effect → List ℕ
seen (next s) = 0 ∷ fields s
seen (branch i s) = 1 ∷ size i ∷ fields s
seen (back a s) = 2 ∷ a ∷ fields s
seen stop = 3 ∷ []

-- ADD immediate
s0 : seen (step plain (AddSubImm AddSub.Add (record { enc = 0 }) (record { enc = 1 }) (record { bits = 1; shift12 = false })) (base 5 18446744073709551615 9223372036854775808 4096)) ≡ 0 ∷ 0 ∷ 18446744073709551615 ∷ 9223372036854775808 ∷ 1030 ∷ 4096 ∷ 2000 ∷ 3000 ∷ 2001 ∷ 3001 ∷ 3978425819141910832 ∷ 4557147201846524216 ∷ 5135868584551137600 ∷ 5714589967255750984 ∷ 6293311349960364368 ∷ 6872032732664977752 ∷ 0 ∷ 0 ∷ 0 ∷ 0 ∷ []
unfolding put load store all_mapped plus minus step base bit fields size seen
s0 = refl

-- SUB immediate
s1 : seen (step plain (AddSubImm AddSub.Sub (record { enc = 0 }) (record { enc = 0 }) (record { bits = 7; shift12 = false })) (base 5 18446744073709551615 9223372036854775808 4096)) ≡ 0 ∷ 18446744073709551614 ∷ 18446744073709551615 ∷ 9223372036854775808 ∷ 1030 ∷ 4096 ∷ 2000 ∷ 3000 ∷ 2001 ∷ 3001 ∷ 3978425819141910832 ∷ 4557147201846524216 ∷ 5135868584551137600 ∷ 5714589967255750984 ∷ 6293311349960364368 ∷ 6872032732664977752 ∷ 0 ∷ 0 ∷ 0 ∷ 0 ∷ []
unfolding put load store all_mapped plus minus step base bit fields size seen
s1 = refl

-- ADD immediate
s2 : seen (step plain (AddSubImm AddSub.Add (record { enc = 31 }) (record { enc = 31 }) (record { bits = 4095; shift12 = false })) (base 5 18446744073709551615 9223372036854775808 4096)) ≡ 0 ∷ 5 ∷ 18446744073709551615 ∷ 9223372036854775808 ∷ 1030 ∷ 8191 ∷ 2000 ∷ 3000 ∷ 2001 ∷ 3001 ∷ 3978425819141910832 ∷ 4557147201846524216 ∷ 5135868584551137600 ∷ 5714589967255750984 ∷ 6293311349960364368 ∷ 6872032732664977752 ∷ 0 ∷ 0 ∷ 0 ∷ 0 ∷ []
unfolding put load store all_mapped plus minus step base bit fields size seen
s2 = refl

-- SUB immediate
s3 : seen (step plain (AddSubImm AddSub.Sub (record { enc = 31 }) (record { enc = 31 }) (record { bits = 1; shift12 = true })) (base 5 18446744073709551615 9223372036854775808 4096)) ≡ 0 ∷ 5 ∷ 18446744073709551615 ∷ 9223372036854775808 ∷ 1030 ∷ 0 ∷ 2000 ∷ 3000 ∷ 2001 ∷ 3001 ∷ 3978425819141910832 ∷ 4557147201846524216 ∷ 5135868584551137600 ∷ 5714589967255750984 ∷ 6293311349960364368 ∷ 6872032732664977752 ∷ 0 ∷ 0 ∷ 0 ∷ 0 ∷ []
unfolding put load store all_mapped plus minus step base bit fields size seen
s3 = refl

-- ADD immediate
s4 : seen (step plain (AddSubImm AddSub.Add (record { enc = 0 }) (record { enc = 31 }) (record { bits = 0; shift12 = false })) (base 5 18446744073709551615 9223372036854775808 4096)) ≡ 0 ∷ 4096 ∷ 18446744073709551615 ∷ 9223372036854775808 ∷ 1030 ∷ 4096 ∷ 2000 ∷ 3000 ∷ 2001 ∷ 3001 ∷ 3978425819141910832 ∷ 4557147201846524216 ∷ 5135868584551137600 ∷ 5714589967255750984 ∷ 6293311349960364368 ∷ 6872032732664977752 ∷ 0 ∷ 0 ∷ 0 ∷ 0 ∷ []
unfolding put load store all_mapped plus minus step base bit fields size seen
s4 = refl

-- SUB immediate
s5 : seen (step plain (AddSubImm AddSub.Sub (record { enc = 2 }) (record { enc = 31 }) (record { bits = 4095; shift12 = true })) (base 5 18446744073709551615 9223372036854775808 4096)) ≡ 0 ∷ 5 ∷ 18446744073709551615 ∷ 18446744073692782592 ∷ 1030 ∷ 4096 ∷ 2000 ∷ 3000 ∷ 2001 ∷ 3001 ∷ 3978425819141910832 ∷ 4557147201846524216 ∷ 5135868584551137600 ∷ 5714589967255750984 ∷ 6293311349960364368 ∷ 6872032732664977752 ∷ 0 ∷ 0 ∷ 0 ∷ 0 ∷ []
unfolding put load store all_mapped plus minus step base bit fields size seen
s5 = refl

-- ADD extended
s6 : seen (step plain (AddSubExt AddSub.Add (record { enc = 31 }) (record { enc = 31 }) (record { enc = 0 })) (base 5 18446744073709551615 9223372036854775808 4096)) ≡ 0 ∷ 5 ∷ 18446744073709551615 ∷ 9223372036854775808 ∷ 1030 ∷ 4101 ∷ 2000 ∷ 3000 ∷ 2001 ∷ 3001 ∷ 3978425819141910832 ∷ 4557147201846524216 ∷ 5135868584551137600 ∷ 5714589967255750984 ∷ 6293311349960364368 ∷ 6872032732664977752 ∷ 0 ∷ 0 ∷ 0 ∷ 0 ∷ []
unfolding put load store all_mapped plus minus step base bit fields size seen
s6 = refl

-- SUB extended
s7 : seen (step plain (AddSubExt AddSub.Sub (record { enc = 31 }) (record { enc = 31 }) (record { enc = 0 })) (base 5 18446744073709551615 9223372036854775808 4096)) ≡ 0 ∷ 5 ∷ 18446744073709551615 ∷ 9223372036854775808 ∷ 1030 ∷ 4091 ∷ 2000 ∷ 3000 ∷ 2001 ∷ 3001 ∷ 3978425819141910832 ∷ 4557147201846524216 ∷ 5135868584551137600 ∷ 5714589967255750984 ∷ 6293311349960364368 ∷ 6872032732664977752 ∷ 0 ∷ 0 ∷ 0 ∷ 0 ∷ []
unfolding put load store all_mapped plus minus step base bit fields size seen
s7 = refl

-- ADD extended
s8 : seen (step plain (AddSubExt AddSub.Add (record { enc = 0 }) (record { enc = 31 }) (record { enc = 31 })) (base 5 18446744073709551615 9223372036854775808 4096)) ≡ 0 ∷ 4096 ∷ 18446744073709551615 ∷ 9223372036854775808 ∷ 1030 ∷ 4096 ∷ 2000 ∷ 3000 ∷ 2001 ∷ 3001 ∷ 3978425819141910832 ∷ 4557147201846524216 ∷ 5135868584551137600 ∷ 5714589967255750984 ∷ 6293311349960364368 ∷ 6872032732664977752 ∷ 0 ∷ 0 ∷ 0 ∷ 0 ∷ []
unfolding put load store all_mapped plus minus step base bit fields size seen
s8 = refl

-- SUB extended
s9 : seen (step plain (AddSubExt AddSub.Sub (record { enc = 1 }) (record { enc = 0 }) (record { enc = 2 })) (base 5 18446744073709551615 9223372036854775808 4096)) ≡ 0 ∷ 5 ∷ 9223372036854775813 ∷ 9223372036854775808 ∷ 1030 ∷ 4096 ∷ 2000 ∷ 3000 ∷ 2001 ∷ 3001 ∷ 3978425819141910832 ∷ 4557147201846524216 ∷ 5135868584551137600 ∷ 5714589967255750984 ∷ 6293311349960364368 ∷ 6872032732664977752 ∷ 0 ∷ 0 ∷ 0 ∷ 0 ∷ []
unfolding put load store all_mapped plus minus step base bit fields size seen
s9 = refl

-- ADDS
s10 : seen (step plain (AddsShifted (record { enc = 0 }) (record { enc = 1 }) (record { enc = 0 })) (base 5 18446744073709551615 9223372036854775808 4096)) ≡ 0 ∷ 4 ∷ 18446744073709551615 ∷ 9223372036854775808 ∷ 1030 ∷ 4096 ∷ 2000 ∷ 3000 ∷ 2001 ∷ 3001 ∷ 3978425819141910832 ∷ 4557147201846524216 ∷ 5135868584551137600 ∷ 5714589967255750984 ∷ 6293311349960364368 ∷ 6872032732664977752 ∷ 0 ∷ 0 ∷ 1 ∷ 0 ∷ []
unfolding put load store all_mapped plus minus step base bit fields size seen
s10 = refl

-- ADDS
s11 : seen (step plain (AddsShifted (record { enc = 31 }) (record { enc = 1 }) (record { enc = 0 })) (base 5 18446744073709551615 9223372036854775808 4096)) ≡ 0 ∷ 5 ∷ 18446744073709551615 ∷ 9223372036854775808 ∷ 1030 ∷ 4096 ∷ 2000 ∷ 3000 ∷ 2001 ∷ 3001 ∷ 3978425819141910832 ∷ 4557147201846524216 ∷ 5135868584551137600 ∷ 5714589967255750984 ∷ 6293311349960364368 ∷ 6872032732664977752 ∷ 0 ∷ 0 ∷ 1 ∷ 0 ∷ []
unfolding put load store all_mapped plus minus step base bit fields size seen
s11 = refl

-- ADDS
s12 : seen (step plain (AddsShifted (record { enc = 0 }) (record { enc = 2 }) (record { enc = 2 })) (base 5 18446744073709551615 9223372036854775808 4096)) ≡ 0 ∷ 0 ∷ 18446744073709551615 ∷ 9223372036854775808 ∷ 1030 ∷ 4096 ∷ 2000 ∷ 3000 ∷ 2001 ∷ 3001 ∷ 3978425819141910832 ∷ 4557147201846524216 ∷ 5135868584551137600 ∷ 5714589967255750984 ∷ 6293311349960364368 ∷ 6872032732664977752 ∷ 0 ∷ 1 ∷ 1 ∷ 1 ∷ []
unfolding put load store all_mapped plus minus step base bit fields size seen
s12 = refl

-- ADDS
s13 : seen (step plain (AddsShifted (record { enc = 2 }) (record { enc = 2 }) (record { enc = 1 })) (base 5 18446744073709551615 9223372036854775808 4096)) ≡ 0 ∷ 5 ∷ 18446744073709551615 ∷ 9223372036854775807 ∷ 1030 ∷ 4096 ∷ 2000 ∷ 3000 ∷ 2001 ∷ 3001 ∷ 3978425819141910832 ∷ 4557147201846524216 ∷ 5135868584551137600 ∷ 5714589967255750984 ∷ 6293311349960364368 ∷ 6872032732664977752 ∷ 0 ∷ 0 ∷ 1 ∷ 1 ∷ []
unfolding put load store all_mapped plus minus step base bit fields size seen
s13 = refl

-- ADDS
s14 : seen (step plain (AddsShifted (record { enc = 0 }) (record { enc = 31 }) (record { enc = 31 })) (base 5 18446744073709551615 9223372036854775808 4096)) ≡ 0 ∷ 0 ∷ 18446744073709551615 ∷ 9223372036854775808 ∷ 1030 ∷ 4096 ∷ 2000 ∷ 3000 ∷ 2001 ∷ 3001 ∷ 3978425819141910832 ∷ 4557147201846524216 ∷ 5135868584551137600 ∷ 5714589967255750984 ∷ 6293311349960364368 ∷ 6872032732664977752 ∷ 0 ∷ 1 ∷ 0 ∷ 0 ∷ []
unfolding put load store all_mapped plus minus step base bit fields size seen
s14 = refl

-- ADDS
s15 : seen (step plain (AddsShifted (record { enc = 0 }) (record { enc = 0 }) (record { enc = 1 })) (base 9223372036854775807 1 0 4096)) ≡ 0 ∷ 9223372036854775808 ∷ 1 ∷ 0 ∷ 1030 ∷ 4096 ∷ 2000 ∷ 3000 ∷ 2001 ∷ 3001 ∷ 3978425819141910832 ∷ 4557147201846524216 ∷ 5135868584551137600 ∷ 5714589967255750984 ∷ 6293311349960364368 ∷ 6872032732664977752 ∷ 1 ∷ 0 ∷ 0 ∷ 1 ∷ []
unfolding put load store all_mapped plus minus step base bit fields size seen
s15 = refl

-- ADDS
s16 : seen (step plain (AddsShifted (record { enc = 31 }) (record { enc = 0 }) (record { enc = 1 })) (base 3 18446744073709551613 0 4096)) ≡ 0 ∷ 3 ∷ 18446744073709551613 ∷ 0 ∷ 1030 ∷ 4096 ∷ 2000 ∷ 3000 ∷ 2001 ∷ 3001 ∷ 3978425819141910832 ∷ 4557147201846524216 ∷ 5135868584551137600 ∷ 5714589967255750984 ∷ 6293311349960364368 ∷ 6872032732664977752 ∷ 0 ∷ 1 ∷ 1 ∷ 0 ∷ []
unfolding put load store all_mapped plus minus step base bit fields size seen
s16 = refl

-- STP X Pre
s17 : seen (step plain (Pair Dir.Store PairClass.X PairMode.Pre (record { enc = 1 }) (record { enc = 2 }) (record { enc = 31 }) (record { value = negsuc 15 })) (base 4096 18446744073709551615 9223372036854775808 4096)) ≡ 0 ∷ 4096 ∷ 18446744073709551615 ∷ 9223372036854775808 ∷ 1030 ∷ 4080 ∷ 2000 ∷ 3000 ∷ 2001 ∷ 3001 ∷ 3978425819141910832 ∷ 4557147201846524216 ∷ 18446744073709551615 ∷ 9223372036854775808 ∷ 6293311349960364368 ∷ 6872032732664977752 ∷ 0 ∷ 0 ∷ 0 ∷ 0 ∷ []
unfolding put load store all_mapped plus minus step base bit fields size seen
s17 = refl

-- STP X Offset
s18 : seen (step plain (Pair Dir.Store PairClass.X PairMode.Offset (record { enc = 31 }) (record { enc = 30 }) (record { enc = 31 }) (record { value = pos 0 })) (base 4096 18446744073709551615 9223372036854775808 4096)) ≡ 0 ∷ 4096 ∷ 18446744073709551615 ∷ 9223372036854775808 ∷ 1030 ∷ 4096 ∷ 2000 ∷ 3000 ∷ 2001 ∷ 3001 ∷ 3978425819141910832 ∷ 4557147201846524216 ∷ 5135868584551137600 ∷ 5714589967255750984 ∷ 0 ∷ 1030 ∷ 0 ∷ 0 ∷ 0 ∷ 0 ∷ []
unfolding put load store all_mapped plus minus step base bit fields size seen
s18 = refl

-- STP X Post
s19 : seen (step plain (Pair Dir.Store PairClass.X PairMode.Post (record { enc = 1 }) (record { enc = 2 }) (record { enc = 0 }) (record { value = pos 16 })) (base 4096 18446744073709551615 9223372036854775808 4096)) ≡ 0 ∷ 4112 ∷ 18446744073709551615 ∷ 9223372036854775808 ∷ 1030 ∷ 4096 ∷ 2000 ∷ 3000 ∷ 2001 ∷ 3001 ∷ 3978425819141910832 ∷ 4557147201846524216 ∷ 5135868584551137600 ∷ 5714589967255750984 ∷ 18446744073709551615 ∷ 9223372036854775808 ∷ 0 ∷ 0 ∷ 0 ∷ 0 ∷ []
unfolding put load store all_mapped plus minus step base bit fields size seen
s19 = refl

-- LDP X Post
s20 : seen (step plain (Pair Dir.Load PairClass.X PairMode.Post (record { enc = 1 }) (record { enc = 30 }) (record { enc = 31 }) (record { value = pos 16 })) (base 4096 18446744073709551615 9223372036854775808 4096)) ≡ 0 ∷ 4096 ∷ 6293311349960364368 ∷ 9223372036854775808 ∷ 6872032732664977752 ∷ 4112 ∷ 2000 ∷ 3000 ∷ 2001 ∷ 3001 ∷ 3978425819141910832 ∷ 4557147201846524216 ∷ 5135868584551137600 ∷ 5714589967255750984 ∷ 6293311349960364368 ∷ 6872032732664977752 ∷ 0 ∷ 0 ∷ 0 ∷ 0 ∷ []
unfolding put load store all_mapped plus minus step base bit fields size seen
s20 = refl

-- LDP X Offset
s21 : seen (step plain (Pair Dir.Load PairClass.X PairMode.Offset (record { enc = 31 }) (record { enc = 1 }) (record { enc = 31 }) (record { value = negsuc 15 })) (base 4096 18446744073709551615 9223372036854775808 4096)) ≡ 0 ∷ 4096 ∷ 5714589967255750984 ∷ 9223372036854775808 ∷ 1030 ∷ 4096 ∷ 2000 ∷ 3000 ∷ 2001 ∷ 3001 ∷ 3978425819141910832 ∷ 4557147201846524216 ∷ 5135868584551137600 ∷ 5714589967255750984 ∷ 6293311349960364368 ∷ 6872032732664977752 ∷ 0 ∷ 0 ∷ 0 ∷ 0 ∷ []
unfolding put load store all_mapped plus minus step base bit fields size seen
s21 = refl

-- STP D Pre
s22 : seen (step plain (Pair Dir.Store PairClass.D PairMode.Pre (record { enc = 0 }) (record { enc = 1 }) (record { enc = 31 }) (record { value = negsuc 31 })) (base 4096 18446744073709551615 9223372036854775808 4096)) ≡ 0 ∷ 4096 ∷ 18446744073709551615 ∷ 9223372036854775808 ∷ 1030 ∷ 4064 ∷ 2000 ∷ 3000 ∷ 2001 ∷ 3001 ∷ 2000 ∷ 2001 ∷ 5135868584551137600 ∷ 5714589967255750984 ∷ 6293311349960364368 ∷ 6872032732664977752 ∷ 0 ∷ 0 ∷ 0 ∷ 0 ∷ []
unfolding put load store all_mapped plus minus step base bit fields size seen
s22 = refl

-- LDP D Post
s23 : seen (step plain (Pair Dir.Load PairClass.D PairMode.Post (record { enc = 0 }) (record { enc = 1 }) (record { enc = 31 }) (record { value = pos 16 })) (base 4096 18446744073709551615 9223372036854775808 4096)) ≡ 0 ∷ 4096 ∷ 18446744073709551615 ∷ 9223372036854775808 ∷ 1030 ∷ 4112 ∷ 6293311349960364368 ∷ 0 ∷ 6872032732664977752 ∷ 0 ∷ 3978425819141910832 ∷ 4557147201846524216 ∷ 5135868584551137600 ∷ 5714589967255750984 ∷ 6293311349960364368 ∷ 6872032732664977752 ∷ 0 ∷ 0 ∷ 0 ∷ 0 ∷ []
unfolding put load store all_mapped plus minus step base bit fields size seen
s23 = refl

-- LDP D Offset
s24 : seen (step plain (Pair Dir.Load PairClass.D PairMode.Offset (record { enc = 1 }) (record { enc = 0 }) (record { enc = 0 }) (record { value = pos 8 })) (base 4096 18446744073709551615 9223372036854775808 4096)) ≡ 0 ∷ 4096 ∷ 18446744073709551615 ∷ 9223372036854775808 ∷ 1030 ∷ 4096 ∷ 7450754115369591136 ∷ 0 ∷ 6872032732664977752 ∷ 0 ∷ 3978425819141910832 ∷ 4557147201846524216 ∷ 5135868584551137600 ∷ 5714589967255750984 ∷ 6293311349960364368 ∷ 6872032732664977752 ∷ 0 ∷ 0 ∷ 0 ∷ 0 ∷ []
unfolding put load store all_mapped plus minus step base bit fields size seen
s24 = refl

-- STP X Pre
s25 : seen (step plain (Pair Dir.Store PairClass.X PairMode.Pre (record { enc = 1 }) (record { enc = 2 }) (record { enc = 31 }) (record { value = negsuc 15 })) (base 5 18446744073709551615 9223372036854775808 4088)) ≡ 3 ∷ []
unfolding put load store all_mapped plus minus step base bit fields size seen
s25 = refl

-- LDP X Post
s26 : seen (step plain (Pair Dir.Load PairClass.X PairMode.Post (record { enc = 1 }) (record { enc = 2 }) (record { enc = 31 }) (record { value = pos 16 })) (base 5 6 7 4992)) ≡ 3 ∷ []
unfolding put load store all_mapped plus minus step base bit fields size seen
s26 = refl

-- STP X Pre
s27 : seen (step plain (Pair Dir.Store PairClass.X PairMode.Pre (record { enc = 1 }) (record { enc = 2 }) (record { enc = 31 }) (record { value = negsuc 15 })) (base 5 6 7 4000)) ≡ 3 ∷ []
unfolding put load store all_mapped plus minus step base bit fields size seen
s27 = refl

-- STR X Pre
s28 : seen (step plain (Single Dir.Store Class.X Mode.Pre (record { enc = 1 }) (record { enc = 31 }) (record { value = negsuc 15 })) (base 4096 18446744073709551615 9223372036854775808 4096)) ≡ 0 ∷ 4096 ∷ 18446744073709551615 ∷ 9223372036854775808 ∷ 1030 ∷ 4080 ∷ 2000 ∷ 3000 ∷ 2001 ∷ 3001 ∷ 3978425819141910832 ∷ 4557147201846524216 ∷ 18446744073709551615 ∷ 5714589967255750984 ∷ 6293311349960364368 ∷ 6872032732664977752 ∷ 0 ∷ 0 ∷ 0 ∷ 0 ∷ []
unfolding put load store all_mapped plus minus step base bit fields size seen
s28 = refl

-- LDR X Post
s29 : seen (step plain (Single Dir.Load Class.X Mode.Post (record { enc = 1 }) (record { enc = 31 }) (record { value = pos 16 })) (base 4096 18446744073709551615 9223372036854775808 4096)) ≡ 0 ∷ 4096 ∷ 6293311349960364368 ∷ 9223372036854775808 ∷ 1030 ∷ 4112 ∷ 2000 ∷ 3000 ∷ 2001 ∷ 3001 ∷ 3978425819141910832 ∷ 4557147201846524216 ∷ 5135868584551137600 ∷ 5714589967255750984 ∷ 6293311349960364368 ∷ 6872032732664977752 ∷ 0 ∷ 0 ∷ 0 ∷ 0 ∷ []
unfolding put load store all_mapped plus minus step base bit fields size seen
s29 = refl

-- STR D Pre
s30 : seen (step plain (Single Dir.Store Class.D Mode.Pre (record { enc = 1 }) (record { enc = 31 }) (record { value = negsuc 15 })) (base 4096 18446744073709551615 9223372036854775808 4096)) ≡ 0 ∷ 4096 ∷ 18446744073709551615 ∷ 9223372036854775808 ∷ 1030 ∷ 4080 ∷ 2000 ∷ 3000 ∷ 2001 ∷ 3001 ∷ 3978425819141910832 ∷ 4557147201846524216 ∷ 2001 ∷ 5714589967255750984 ∷ 6293311349960364368 ∷ 6872032732664977752 ∷ 0 ∷ 0 ∷ 0 ∷ 0 ∷ []
unfolding put load store all_mapped plus minus step base bit fields size seen
s30 = refl

-- LDR D Post
s31 : seen (step plain (Single Dir.Load Class.D Mode.Post (record { enc = 1 }) (record { enc = 31 }) (record { value = pos 16 })) (base 4096 18446744073709551615 9223372036854775808 4096)) ≡ 0 ∷ 4096 ∷ 18446744073709551615 ∷ 9223372036854775808 ∷ 1030 ∷ 4112 ∷ 2000 ∷ 3000 ∷ 6293311349960364368 ∷ 0 ∷ 3978425819141910832 ∷ 4557147201846524216 ∷ 5135868584551137600 ∷ 5714589967255750984 ∷ 6293311349960364368 ∷ 6872032732664977752 ∷ 0 ∷ 0 ∷ 0 ∷ 0 ∷ []
unfolding put load store all_mapped plus minus step base bit fields size seen
s31 = refl

-- STR Q Pre
s32 : seen (step plain (Single Dir.Store Class.Q Mode.Pre (record { enc = 1 }) (record { enc = 31 }) (record { value = negsuc 15 })) (base 4096 18446744073709551615 9223372036854775808 4096)) ≡ 0 ∷ 4096 ∷ 18446744073709551615 ∷ 9223372036854775808 ∷ 1030 ∷ 4080 ∷ 2000 ∷ 3000 ∷ 2001 ∷ 3001 ∷ 3978425819141910832 ∷ 4557147201846524216 ∷ 2001 ∷ 3001 ∷ 6293311349960364368 ∷ 6872032732664977752 ∷ 0 ∷ 0 ∷ 0 ∷ 0 ∷ []
unfolding put load store all_mapped plus minus step base bit fields size seen
s32 = refl

-- LDR Q Post
s33 : seen (step plain (Single Dir.Load Class.Q Mode.Post (record { enc = 1 }) (record { enc = 31 }) (record { value = pos 16 })) (base 4096 18446744073709551615 9223372036854775808 4096)) ≡ 0 ∷ 4096 ∷ 18446744073709551615 ∷ 9223372036854775808 ∷ 1030 ∷ 4112 ∷ 2000 ∷ 3000 ∷ 6293311349960364368 ∷ 6872032732664977752 ∷ 3978425819141910832 ∷ 4557147201846524216 ∷ 5135868584551137600 ∷ 5714589967255750984 ∷ 6293311349960364368 ∷ 6872032732664977752 ∷ 0 ∷ 0 ∷ 0 ∷ 0 ∷ []
unfolding put load store all_mapped plus minus step base bit fields size seen
s33 = refl

-- STR X Post
s34 : seen (step plain (Single Dir.Store Class.X Mode.Post (record { enc = 31 }) (record { enc = 0 }) (record { value = negsuc 7 })) (base 4096 18446744073709551615 9223372036854775808 4096)) ≡ 0 ∷ 4088 ∷ 18446744073709551615 ∷ 9223372036854775808 ∷ 1030 ∷ 4096 ∷ 2000 ∷ 3000 ∷ 2001 ∷ 3001 ∷ 3978425819141910832 ∷ 4557147201846524216 ∷ 5135868584551137600 ∷ 5714589967255750984 ∷ 0 ∷ 6872032732664977752 ∷ 0 ∷ 0 ∷ 0 ∷ 0 ∷ []
unfolding put load store all_mapped plus minus step base bit fields size seen
s34 = refl

-- LDR D Pre
s35 : seen (step plain (Single Dir.Load Class.D Mode.Pre (record { enc = 0 }) (record { enc = 0 }) (record { value = pos 8 })) (base 4096 18446744073709551615 9223372036854775808 4096)) ≡ 0 ∷ 4104 ∷ 18446744073709551615 ∷ 9223372036854775808 ∷ 1030 ∷ 4096 ∷ 6872032732664977752 ∷ 0 ∷ 2001 ∷ 3001 ∷ 3978425819141910832 ∷ 4557147201846524216 ∷ 5135868584551137600 ∷ 5714589967255750984 ∷ 6293311349960364368 ∷ 6872032732664977752 ∷ 0 ∷ 0 ∷ 0 ∷ 0 ∷ []
unfolding put load store all_mapped plus minus step base bit fields size seen
s35 = refl

-- LDR Q Post
s36 : seen (step plain (Single Dir.Load Class.Q Mode.Post (record { enc = 0 }) (record { enc = 31 }) (record { value = pos 16 })) (base 5 6 7 4104)) ≡ 3 ∷ []
unfolding put load store all_mapped plus minus step base bit fields size seen
s36 = refl

-- LDR unsigned offset
s37 : seen (step plain (LdrUImm (record { enc = 1 }) (record { enc = 31 }) (record { value = 8 })) (base 8 18446744073709551615 9223372036854775808 4096)) ≡ 0 ∷ 8 ∷ 6872032732664977752 ∷ 9223372036854775808 ∷ 1030 ∷ 4096 ∷ 2000 ∷ 3000 ∷ 2001 ∷ 3001 ∷ 3978425819141910832 ∷ 4557147201846524216 ∷ 5135868584551137600 ∷ 5714589967255750984 ∷ 6293311349960364368 ∷ 6872032732664977752 ∷ 0 ∷ 0 ∷ 0 ∷ 0 ∷ []
unfolding put load store all_mapped plus minus step base bit fields size seen
s37 = refl

-- LDR register
s38 : seen (step plain (LdrReg (record { enc = 2 }) (record { enc = 31 }) (record { enc = 0 })) (base 8 18446744073709551615 9223372036854775808 4096)) ≡ 0 ∷ 8 ∷ 18446744073709551615 ∷ 6872032732664977752 ∷ 1030 ∷ 4096 ∷ 2000 ∷ 3000 ∷ 2001 ∷ 3001 ∷ 3978425819141910832 ∷ 4557147201846524216 ∷ 5135868584551137600 ∷ 5714589967255750984 ∷ 6293311349960364368 ∷ 6872032732664977752 ∷ 0 ∷ 0 ∷ 0 ∷ 0 ∷ []
unfolding put load store all_mapped plus minus step base bit fields size seen
s38 = refl

-- LDR register below
s39 : seen (step plain (LdrReg (record { enc = 2 }) (record { enc = 31 }) (record { enc = 0 })) (base 18446744073709551600 6 7 4096)) ≡ 0 ∷ 18446744073709551600 ∷ 6 ∷ 5135868584551137600 ∷ 1030 ∷ 4096 ∷ 2000 ∷ 3000 ∷ 2001 ∷ 3001 ∷ 3978425819141910832 ∷ 4557147201846524216 ∷ 5135868584551137600 ∷ 5714589967255750984 ∷ 6293311349960364368 ∷ 6872032732664977752 ∷ 0 ∷ 0 ∷ 0 ∷ 0 ∷ []
unfolding put load store all_mapped plus minus step base bit fields size seen
s39 = refl

-- STR W register
s40 : seen (step plain (StrWReg (record { enc = 1 }) (record { enc = 31 }) (record { enc = 0 })) (base 8 18446744073709551615 9223372036854775808 4096)) ≡ 0 ∷ 8 ∷ 18446744073709551615 ∷ 9223372036854775808 ∷ 1030 ∷ 4096 ∷ 2000 ∷ 3000 ∷ 2001 ∷ 3001 ∷ 3978425819141910832 ∷ 4557147201846524216 ∷ 5135868584551137600 ∷ 5714589967255750984 ∷ 6293311349960364368 ∷ 6872032735427297279 ∷ 0 ∷ 0 ∷ 0 ∷ 0 ∷ []
unfolding put load store all_mapped plus minus step base bit fields size seen
s40 = refl

-- STR W register below
s41 : seen (step plain (StrWReg (record { enc = 1 }) (record { enc = 31 }) (record { enc = 0 })) (base 18446744073709551604 1234605616436508552 7 4096)) ≡ 0 ∷ 18446744073709551604 ∷ 1234605616436508552 ∷ 7 ∷ 1030 ∷ 4096 ∷ 2000 ∷ 3000 ∷ 2001 ∷ 3001 ∷ 3978425819141910832 ∷ 4557147201846524216 ∷ 6153737367976034624 ∷ 5714589967255750984 ∷ 6293311349960364368 ∷ 6872032732664977752 ∷ 0 ∷ 0 ∷ 0 ∷ 0 ∷ []
unfolding put load store all_mapped plus minus step base bit fields size seen
s41 = refl

-- STUR W
s42 : seen (step plain (SturW (record { enc = 31 }) (record { enc = 31 }) (record { value = negsuc 3 })) (base 8 18446744073709551615 9223372036854775808 4096)) ≡ 0 ∷ 8 ∷ 18446744073709551615 ∷ 9223372036854775808 ∷ 1030 ∷ 4096 ∷ 2000 ∷ 3000 ∷ 2001 ∷ 3001 ∷ 3978425819141910832 ∷ 4557147201846524216 ∷ 5135868584551137600 ∷ 1263159624 ∷ 6293311349960364368 ∷ 6872032732664977752 ∷ 0 ∷ 0 ∷ 0 ∷ 0 ∷ []
unfolding put load store all_mapped plus minus step base bit fields size seen
s42 = refl

-- MOVZ
s43 : seen (step plain (MovWide MoveWideOp.MovZ (record { enc = 2 }) (record { bits = 48879; shift = 2 })) (base 8 18446744073709551615 9223372036854775808 4096)) ≡ 0 ∷ 8 ∷ 18446744073709551615 ∷ 209933706461184 ∷ 1030 ∷ 4096 ∷ 2000 ∷ 3000 ∷ 2001 ∷ 3001 ∷ 3978425819141910832 ∷ 4557147201846524216 ∷ 5135868584551137600 ∷ 5714589967255750984 ∷ 6293311349960364368 ∷ 6872032732664977752 ∷ 0 ∷ 0 ∷ 0 ∷ 0 ∷ []
unfolding put load store all_mapped plus minus step base bit fields size seen
s43 = refl

-- MOVK
s44 : seen (step plain (MovWide MoveWideOp.MovK (record { enc = 1 }) (record { bits = 4660; shift = 3 })) (base 8 18446744073709551615 9223372036854775808 4096)) ≡ 0 ∷ 8 ∷ 1311954866448367615 ∷ 9223372036854775808 ∷ 1030 ∷ 4096 ∷ 2000 ∷ 3000 ∷ 2001 ∷ 3001 ∷ 3978425819141910832 ∷ 4557147201846524216 ∷ 5135868584551137600 ∷ 5714589967255750984 ∷ 6293311349960364368 ∷ 6872032732664977752 ∷ 0 ∷ 0 ∷ 0 ∷ 0 ∷ []
unfolding put load store all_mapped plus minus step base bit fields size seen
s44 = refl

-- PACIBSP
s45 : seen (step sealing (Paci Key.B Modifier.Sp) (base 8 18446744073709551615 9223372036854775808 4096)) ≡ 0 ∷ 8 ∷ 18446744073709551615 ∷ 9223372036854775808 ∷ 362258295026615302 ∷ 4096 ∷ 2000 ∷ 3000 ∷ 2001 ∷ 3001 ∷ 3978425819141910832 ∷ 4557147201846524216 ∷ 5135868584551137600 ∷ 5714589967255750984 ∷ 6293311349960364368 ∷ 6872032732664977752 ∷ 0 ∷ 0 ∷ 0 ∷ 0 ∷ []
unfolding put load store all_mapped plus minus step base bit fields size seen
s45 = refl

-- PACIAZ
s46 : seen (step sealing (Paci Key.A Modifier.Zero) (base 8 18446744073709551615 9223372036854775808 4096)) ≡ 0 ∷ 8 ∷ 18446744073709551615 ∷ 9223372036854775808 ∷ 289919226011976710 ∷ 4096 ∷ 2000 ∷ 3000 ∷ 2001 ∷ 3001 ∷ 3978425819141910832 ∷ 4557147201846524216 ∷ 5135868584551137600 ∷ 5714589967255750984 ∷ 6293311349960364368 ∷ 6872032732664977752 ∷ 0 ∷ 0 ∷ 0 ∷ 0 ∷ []
unfolding put load store all_mapped plus minus step base bit fields size seen
s46 = refl

-- AUTIASP
s47 : seen (step sealing (Auti Key.A Modifier.Sp) (base 8 18446744073709551615 9223372036854775808 4096)) ≡ 0 ∷ 8 ∷ 18446744073709551615 ∷ 9223372036854775808 ∷ 9223372036854776838 ∷ 4096 ∷ 2000 ∷ 3000 ∷ 2001 ∷ 3001 ∷ 3978425819141910832 ∷ 4557147201846524216 ∷ 5135868584551137600 ∷ 5714589967255750984 ∷ 6293311349960364368 ∷ 6872032732664977752 ∷ 0 ∷ 0 ∷ 0 ∷ 0 ∷ []
unfolding put load store all_mapped plus minus step base bit fields size seen
s47 = refl

-- PACIASP, plain
s48 : seen (step plain (Paci Key.A Modifier.Sp) (base 8 18446744073709551615 9223372036854775808 4096)) ≡ 0 ∷ 8 ∷ 18446744073709551615 ∷ 9223372036854775808 ∷ 1030 ∷ 4096 ∷ 2000 ∷ 3000 ∷ 2001 ∷ 3001 ∷ 3978425819141910832 ∷ 4557147201846524216 ∷ 5135868584551137600 ∷ 5714589967255750984 ∷ 6293311349960364368 ∷ 6872032732664977752 ∷ 0 ∷ 0 ∷ 0 ∷ 0 ∷ []
unfolding put load store all_mapped plus minus step base bit fields size seen
s48 = refl

-- BTI c
s49 : seen (step plain (BtiC) (base 8 18446744073709551615 9223372036854775808 4096)) ≡ 0 ∷ 8 ∷ 18446744073709551615 ∷ 9223372036854775808 ∷ 1030 ∷ 4096 ∷ 2000 ∷ 3000 ∷ 2001 ∷ 3001 ∷ 3978425819141910832 ∷ 4557147201846524216 ∷ 5135868584551137600 ∷ 5714589967255750984 ∷ 6293311349960364368 ∷ 6872032732664977752 ∷ 0 ∷ 0 ∷ 0 ∷ 0 ∷ []
unfolding put load store all_mapped plus minus step base bit fields size seen
s49 = refl

-- RET
s50 : seen (step plain (Ret) (base 8 18446744073709551615 9223372036854775808 4096)) ≡ 2 ∷ 1030 ∷ 8 ∷ 18446744073709551615 ∷ 9223372036854775808 ∷ 1030 ∷ 4096 ∷ 2000 ∷ 3000 ∷ 2001 ∷ 3001 ∷ 3978425819141910832 ∷ 4557147201846524216 ∷ 5135868584551137600 ∷ 5714589967255750984 ∷ 6293311349960364368 ∷ 6872032732664977752 ∷ 0 ∷ 0 ∷ 0 ∷ 0 ∷ []
unfolding put load store all_mapped plus minus step base bit fields size seen
s50 = refl

-- RETAB
s51 : seen (step sealing (RetAuth Key.B) (base 8 18446744073709551615 9223372036854775808 4096)) ≡ 2 ∷ 9223372036854776838 ∷ 8 ∷ 18446744073709551615 ∷ 9223372036854775808 ∷ 1030 ∷ 4096 ∷ 2000 ∷ 3000 ∷ 2001 ∷ 3001 ∷ 3978425819141910832 ∷ 4557147201846524216 ∷ 5135868584551137600 ∷ 5714589967255750984 ∷ 6293311349960364368 ∷ 6872032732664977752 ∷ 0 ∷ 0 ∷ 0 ∷ 0 ∷ []
unfolding put load store all_mapped plus minus step base bit fields size seen
s51 = refl

-- RETAA, plain
s52 : seen (step plain (RetAuth Key.A) (base 8 18446744073709551615 9223372036854775808 4096)) ≡ 3 ∷ []
unfolding put load store all_mapped plus minus step base bit fields size seen
s52 = refl

-- B.GT taken: Z is clear, N = V
s53 : seen (step plain (BGt (negsuc 2)) (base 8 18446744073709551615 9223372036854775808 4096)) ≡ 1 ∷ 2 ∷ 8 ∷ 18446744073709551615 ∷ 9223372036854775808 ∷ 1030 ∷ 4096 ∷ 2000 ∷ 3000 ∷ 2001 ∷ 3001 ∷ 3978425819141910832 ∷ 4557147201846524216 ∷ 5135868584551137600 ∷ 5714589967255750984 ∷ 6293311349960364368 ∷ 6872032732664977752 ∷ 0 ∷ 0 ∷ 0 ∷ 0 ∷ []
unfolding put load store all_mapped plus minus step base bit fields size seen
s53 = refl

-- other
s54 : seen (step plain (Other 0) (base 8 18446744073709551615 9223372036854775808 4096)) ≡ 3 ∷ []
unfolding put load store all_mapped plus minus step base bit fields size seen
s54 = refl
