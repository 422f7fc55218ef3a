use Rattle.std.proofs.Common.{◌≡◌, sym, subst, rules}
use Rattle.std.specs.Str.{IsUtf8}
use Rattle.path_match.specs.Match.{patterns_text}
use Rattle.dropin_rules.proofs.Ascii.{patterns_utf8}
use Rattle.dropin_rules.proofs.argument.patterns_value.Goals as goal

pub text_value-requires : goal.text_value-requires
text_value-requires c =
    let same : c.deref.result.now ≡ patterns_text c.args.patterns.now = search rules in
    subst IsUtf8 (sym same) (patterns_utf8 c.args.patterns.now c.write.ensures.patterns)
