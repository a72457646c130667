-- The categories and the end character of a world over texts are those of the code's world.
use Rattle.std.proofs.Common.{◌≡◌, ap}
use Rattle.texml_token.specs.Numbers.{Table}
use Rattle.texml_scope.specs.declared.values.KeyOf.TheVariants.{Cat, EndLineChar}
use Rattle.texml_scope.specs.World.{World as WorldCode}
use Rattle.texml_scope.specs.Numbers.{world_at}
use Rattle.texml_scope.proofs.Texts.{number_says}
use Rattle.texml_input.specs.Codes.{category_of, cats_of, character_of, end_of}

pub cats_same : (texts : Table) (w : WorldCode) → cats_of (world_at texts w) ≡ cats_of w
unfolding world_at
cats_same texts w = λ i c. category_of (number_says texts (w.top (Cat c)) i)

pub end_same : (texts : Table) (w : WorldCode) → end_of (world_at texts w) ≡ end_of w
unfolding world_at
end_same texts w = ap character_of (number_says texts (w.top EndLineChar))
