use Rattle.std.proofs.Common.{map, ap, rules}
use Rattle.decoder.specs.Reading.{reading}
use Rattle.word_sink.specs.Cells.{insts_of}
use Rattle.word_sink.proofs.WordSink.code.Goals as goal

pub returns : goal.returns
unfolding insts_of
returns c = record { words = search rules; readings = ap (map reading) (search rules) }
