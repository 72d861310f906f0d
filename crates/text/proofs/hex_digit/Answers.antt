use Rattle.std.proofs.Common.{◌≡◌, ◌∙◌, rules}
use Rattle.std.specs.Char.{digit_char}
use Rattle.text.proofs.Numbers.{hex-char}
use Rattle.text.proofs.hex_digit.Goals as goal

pub returns : goal.returns
returns c =
    let digit : c.unwrap.result ≡ digit_char c.args.number = search rules in
    digit ∙ hex-char c.args.number
