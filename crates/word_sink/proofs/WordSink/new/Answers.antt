use Rattle.std.proofs.Common.{rules}
use Rattle.word_sink.specs.Cells.{insts_of, notes_of}
use Rattle.word_sink.proofs.WordSink.new.Goals as goal

pub returns : goal.returns
unfolding insts_of notes_of
returns c = search rules
