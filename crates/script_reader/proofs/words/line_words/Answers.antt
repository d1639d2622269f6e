use Rattle.std.proofs.Common.{refl, arith, sym, ◌∙◌, inl, inr}
use Rattle.script_reader.proofs.Gathered.{gathered_none, gathered_more, an_empty_word, too_many, all_words}
use Rattle.script_reader.proofs.words.line_words.Goals as goal

pub loop-word-init : goal.loop-word-init
loop-word-init c = gathered_none c.args.text.now c.new-words.result.items c.new-words.ensures.items

pub loop-word-preserved : goal.loop-word-preserved
loop-word-preserved c = gathered_more c.args.text.now c.loop-word.words.items _ c.loop-word.rest.now c.in-Some.after.now c.in-Some.word c.loop-word.invariant c.in-Some.ensures.0 (sym c.is_empty.ensures ∙ c.if-is_empty.false) (omega arith) c.in_ok-push.ensures.items

pub returns-then-is_empty : goal.returns-then-is_empty
returns-then-is_empty c = inl (an_empty_word c.args.text.now c.loop-word.words.items c.loop-word.rest.now c.in-Some.word.now _ c.loop-word.invariant c.in-Some.ensures.0 (sym c.is_empty.ensures ∙ c.if-is_empty.true))

pub returns-then-count-ge299 : goal.returns-then-count-ge299
returns-then-count-ge299 c = inr (too_many c.args.text.now c.loop-word.words.items c.loop-word.rest.now c.in-Some.word.now c.in-Some.after.now c.loop-word.invariant c.in-Some.ensures.0 (omega arith))

pub returns-then-is_empty-2 : goal.returns-then-is_empty-2
returns-then-is_empty-2 c = inl (an_empty_word c.args.text.now c.loop-word.words.items c.loop-word.rest.now c.loop-word.rest.now _ c.loop-word.invariant c.in_default.ensures (sym c.is_empty-2.ensures ∙ c.if-is_empty-2.true))

pub returns : goal.returns
returns c = all_words c.args.text.now c.loop-word.words.items _ c.loop-word.rest.now c.loop-word.rest c.loop-word.invariant c.in_default.ensures (sym c.is_empty-2.ensures ∙ c.if-is_empty-2.false) refl c.in_ok-push-2.ensures.items
