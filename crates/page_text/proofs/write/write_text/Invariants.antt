use Rattle.std.proofs.Common.{◌≡◌, ◌++◌, encode_utf8_all, string_bytes}
use Rattle.std.specs.Str.Iter.{chars_rest}
use Rattle.page_text.specs.Written.{text_markup}
use Rattle.page_text.proofs.Writing.{AreLeft}
use Rattle.page_text.proofs.write.write_text.Given as goal

-- what was yielded is written, and the rest of the text is left
abbrev pub invariant-loop-ch : goal.invariant-loop-ch
invariant-loop-ch g l = record {
  written : string_bytes l.out ≡ string_bytes l.fn.out ++ encode_utf8_all (text_markup l.yielded);
  left : AreLeft l.text l.yielded (chars_rest l.ch-iterator);
}
