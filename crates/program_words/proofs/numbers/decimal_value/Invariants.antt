use Rattle.std.proofs.Common.{◌≡◌, ◌<◌, ◌^◌, take}
use Rattle.std.specs.Str.Parse.{digits_value}
use Rattle.program_words.proofs.numbers.decimal_value.Given as goal

abbrev pub invariant-loop-c : goal.invariant-loop-c
invariant-loop-c l = record {
  value : l.n ≡ digits_value 10 (take l.c-index l.text);
  small : l.n < 10 ^ l.c-index;
}
