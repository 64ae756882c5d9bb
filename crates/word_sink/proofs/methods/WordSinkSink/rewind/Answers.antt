use Rattle.std.proofs.Common.{◌≡◌, Some, None, vec_items, arith, rules, vec_len}
use Rattle.sink.specs.Held.{late}
use Rattle.word_sink.specs.Cells.{word_held}
use Rattle.word_sink.proofs.Refused.{late_place, told_beyond}
use Rattle.word_sink.proofs.Slots.{late_insts, late_notes, late_stray, held_rewound}
use Rattle.word_sink.proofs.methods.WordSinkSink.rewind.Goals as goal

pub returns-then-i-self : goal.returns-then-i-self
returns-then-i-self c =
    let l = late_insts (vec_len c.args.self.now.words) (vec_items c.args.self.now.words) c.args.self.now.insts c.args.self.now.notes c.args.i c.args.n (search rules) (omega arith) in
    record { answer = (late_place _ _ _ l c.not_held.ensures, search rules, told_beyond _ _ c.not_held.ensures); cells = search rules }

pub returns-then-n-self : goal.returns-then-n-self
returns-then-n-self c =
    let l = late_notes (vec_len c.args.self.now.words) (vec_items c.args.self.now.words) c.args.self.now.insts c.args.self.now.notes c.args.i c.args.n (search rules) (omega arith) (omega arith) in
    record { answer = (late_place _ _ _ l c.not_held-then-n-self.ensures, search rules, told_beyond _ _ c.not_held-then-n-self.ensures); cells = search rules }

pub returns-in-Some : goal.returns-in-Some
returns-in-Some c =
    let s = late_stray (vec_len c.args.self.now.words) (vec_items c.args.self.now.words) c.args.self.now.insts c.args.self.now.notes c.args.i c.args.n (search rules) (omega arith) (omega arith) in
    let e = c.in-Some.ensures in
    let l : late (word_held c.args.self.now) c.args.i c.args.n ≡ Some c.in-Some.k = cc in
    record { answer = (late_place _ _ _ l c.not_held-in-Some.ensures, search rules, told_beyond _ _ c.not_held-in-Some.ensures); cells = search rules }

pub returns : goal.returns
returns c =
    let s = late_stray (vec_len c.args.self.now.words) (vec_items c.args.self.now.words) c.args.self.now.insts c.args.self.now.notes c.args.i c.args.n (search rules) (omega arith) (omega arith) in
    let e = c.first_stray.ensures in
    let f : c.first_stray.result ≡ None = search rules in
    let h =
    held_rewound (vec_len c.args.self.now.words) (vec_items c.args.self.now.words) c.args.self.now.insts c.args.self.now.notes
    c.args.i c.args.n c.args.self.now.fit (search rules) (omega arith) (omega arith) in
    record { answer = (cc, search rules); cells = search rules }
