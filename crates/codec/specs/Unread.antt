-- The refusal of an instruction that is no word's reading.
use Rattle.refusal.specs.Told.{Told}

abbrev pub unread : Told
unread = record { number = 12; layer = 2; place = 0 }
