-- The items of each piece.
use Rattle.std.specs.Prelude.{List}
use Rattle.item_list.specs.Items.{code}
use Rattle.sheet.specs.Plain.{PlainSheet}
use Rattle.sink.specs.declared.item.Item.{Item}
use Rattle.frame.specs.Pieces.{epilogue, gen_clobber_restore_of, gen_clobber_save_of, gen_epilogue_frame_restore_of, gen_prologue_frame_setup_of, gen_return_of, prologue}
use Rattle.frame.specs.declared.piece.Piece.{Piece}

-- What a piece of a sheet's frame puts.
abbrev pub piece_of : Piece → PlainSheet → List Item
piece_of Piece.PrologueFrameSetup h = gen_prologue_frame_setup_of h
piece_of Piece.ClobberSave h = gen_clobber_save_of h
piece_of Piece.ClobberRestore h = code (gen_clobber_restore_of h)
piece_of Piece.EpilogueFrameRestore h = code (gen_epilogue_frame_restore_of h)
piece_of Piece.Return h = code (gen_return_of h)
piece_of Piece.Prologue h = prologue h
piece_of Piece.Epilogue h = epilogue h
