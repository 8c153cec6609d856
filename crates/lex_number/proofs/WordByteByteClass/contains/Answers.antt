use Rattle.lex_number.proofs.InLaws.{no_content, content_filled}
use Rattle.lex_number.proofs.WordByteByteClass.contains.Goals as goal

pub returns-then-contains : goal.returns-then-contains
returns-then-contains c = search content_filled

pub returns-else-contains : goal.returns-else-contains
returns-else-contains c = search no_content
