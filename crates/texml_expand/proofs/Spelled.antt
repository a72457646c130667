-- Spelled tokens are characters, and the escape character is the one that the world says.
use Rattle.std.proofs.Common.{◌≡◌, ℕ, ℤ, negsuc, true, ◌&&◌, List, [], ◌∷◌, Option, refl, sym, ap, ◌∙◌}
use Rattle.std.specs.List.{All}
use Rattle.std.specs.Option.{unwrap_or}
use Rattle.std.specs.Prelude.{encode_utf8_all}
use Rattle.std.specs.Char.{IsScalar}
use Rattle.std.specs.Str.{IsUtf8, chars}
use Rattle.std.proofs.Math.Utf8.{scalars}
use Rattle.std.proofs.lemmas.Str.{chars-encodes}
use Rattle.std.proofs.lemmas.List.Elements.{All-head, All-tail}
use Rattle.texml_token.specs.Numbers.{Numbered}
use Rattle.texml_scope.specs.declared.values.KeyOf.TheVariants.{EscapeChar}
use Rattle.texml_scope.specs.Shown.{world_of}
use Rattle.texml_scope.specs.Values.{number_in}
use Rattle.texml_scope.proofs.Texts.{world_says, number_says}
use Rattle.texml_expand.specs.Expansion.{escape_of}
use Rattle.texml_expand.specs.Held.{Held, world_in}

pub all_scalars : (cs : List ℕ) → All IsScalar cs → scalars cs ≡ true
all_scalars [] h = refl
all_scalars (c ∷ cs) h = ap (λ b. b && scalars cs) (All-head IsScalar c cs h) ∙ all_scalars cs (All-tail IsScalar c cs h)

pub characters_utf8 : (cs : List ℕ) → All IsScalar cs → IsUtf8 (encode_utf8_all cs)
characters_utf8 cs h = (cs, (all_scalars cs h, refl))

pub characters_back : (cs : List ℕ) → All IsScalar cs → chars (encode_utf8_all cs) ≡ cs
characters_back cs h = chars-encodes cs (all_scalars cs h)

pub escape_says : (h : Held) → Numbered h.names → (o : Option ℤ) → o ≡ number_in ((world_of h.scope).top EscapeChar) → unwrap_or o (negsuc 0) ≡ escape_of (world_in h)
escape_says h numbered o e =
    ap (λ n. unwrap_or n (negsuc 0)) (e ∙ sym (number_says h.names ((world_of h.scope).top EscapeChar)) ∙ ap number_in (sym (world_says h.names numbered EscapeChar tt (world_of h.scope))))
