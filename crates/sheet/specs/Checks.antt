-- What a sheet says once its numbers are read, and once it is checked.
use Rattle.codes.specs.Items.{items}
use Rattle.sheet.specs.Plain.{PlainSheet}
use Rattle.sheet.specs.declared.checked.CheckedSheet.{CheckedSheet}
use Rattle.sheet.specs.declared.read.ReadSheet.{ReadSheet}

-- Its plain record.
abbrev pub plain : CheckedSheet → PlainSheet
plain c =
    record {
      number = c.number;
      conv = c.call_conv;
      calls = c.function_calls;
      flags = c.flags;
      sizes = c.sizes;
      clobbers = items c.clobbers;
    }

-- The same of one whose numbers are read.
abbrev pub plain_read : ReadSheet → PlainSheet
plain_read s =
    record {
      number = s.number;
      conv = s.call_conv;
      calls = s.function_calls;
      flags = s.flags;
      sizes = s.sizes;
      clobbers = s.clobbers.now;
    }
