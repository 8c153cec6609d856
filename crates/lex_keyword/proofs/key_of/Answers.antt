use borrow.Author.Rules.{rules}
use Rattle.lex_keyword.proofs.KeyLaws.{too_long, key_first, key_known, key_long, key_found, key_next, key_none}
use Rattle.lex_keyword.proofs.key_of.Goals as goal

pub returns-then-size-gt-LONGEST : goal.returns-then-size-gt-LONGEST
returns-then-size-gt-LONGEST c = search too_long

pub loop-key-init : goal.loop-key-init
loop-key-init c = search key_first

pub is_name_of-requires : goal.is_name_of-requires
is_name_of-requires c = search (rules, key_known, key_long)

pub returns-then-is_name_of : goal.returns-then-is_name_of
returns-then-is_name_of c = search key_found

pub loop-key-preserved : goal.loop-key-preserved
loop-key-preserved c = search (rules, key_next)

pub returns : goal.returns
returns c = search key_none
