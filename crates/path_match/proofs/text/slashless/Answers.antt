use Rattle.std.proofs.Common.{rules}
use Rattle.path_match.proofs.Texts.{root_text}
use Rattle.path_match.proofs.text.slashless.Goals as goal

pub returns-then-eq : goal.returns-then-eq
returns-then-eq c = root_text c.args.pattern.now (search rules)
