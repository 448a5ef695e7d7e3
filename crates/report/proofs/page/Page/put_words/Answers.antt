-- At an index the words from there on are left, and the end of the line.
use mathlib.Core.Path.{sym, ◌∙◌}
use native.Mathlib.Omega.{arith}
use Rattle.report.proofs.Lines.{words-none, words-some, words-next, words-end}
use Rattle.report.proofs.Writes.{all_left, left_as, less-left, last_put, room_next, room_as, puts_as}
use Rattle.report.proofs.page.Page.put_words.Goals as goal

pub put_bytes-requires : goal.put_bytes-requires
put_bytes-requires c = room_as (sym (words-none c.args.ws.now (sym c.is_empty.ensures ∙ c.if-is_empty.true))) c.requires

pub returns-then-is_empty : goal.returns-then-is_empty
returns-then-is_empty c = puts_as (words-none c.args.ws.now (sym c.is_empty.ensures ∙ c.if-is_empty.true)) c.put_bytes.ensures

pub loop-w-init : goal.loop-w-init
loop-w-init c = left_as (words-some c.args.ws.now (sym c.is_empty.ensures ∙ c.if-is_empty.false)) (all_left c.requires)

pub put_word-requires : goal.put_word-requires
put_word-requires c = let l = c.loop-w in room_next _ _ (left_as (words-next c.args.ws.now l.w-index (omega arith)) l.invariant)

pub loop-w-preserved : goal.loop-w-preserved
loop-w-preserved c = let l = c.loop-w in less-left _ _ (left_as (words-next c.args.ws.now l.w-index (omega arith)) l.invariant) c.put_word.ensures

pub put_byte-requires : goal.put_byte-requires
put_byte-requires c = let l = c.loop-w in (left_as (words-end c.args.ws.now l.w-index (omega arith)) l.invariant).room

pub returns : goal.returns
returns c = let l = c.loop-w in last_put (left_as (words-end c.args.ws.now l.w-index (omega arith)) l.invariant) c.put_byte.ensures
