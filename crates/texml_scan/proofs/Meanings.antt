-- What a token is as a quantity doesn't depend on how names and tokens are written.
use Rattle.std.proofs.Common.{◌≡◌, refl, ap, Some, None, if◌then◌else◌}
use Rattle.texml_token.specs.Token.{Token, Char, Active, Param, Named, Fixed}
use Rattle.texml_scope.specs.declared.values.KeyOf.{KeyOf}
use Rattle.texml_scope.specs.declared.values.KeyOf.TheVariants.{Toks}
use Rattle.texml_scope.specs.declared.values.MeaningOf.TheVariants as meaning
use Rattle.texml_scope.specs.Values.{Meaning, map_key, map_meaning}
use Rattle.texml_scan.specs.declared.looks.Held.{Held}
use Rattle.texml_scan.specs.declared.looks.Held.TheVariants as held
use Rattle.texml_scan.specs.declared.looks.Look.TheVariants.{Other}
use Rattle.texml_scan.specs.declared.looks.Quantity.TheVariants.{Plain, Unread}
use Rattle.texml_scan.specs.Looked.{is_quantity, begins_quantity, quantity_of, look_of, one_character}

is_quantity-map_key : {M N : Type 0} (name : M → N) (k : KeyOf M) → is_quantity (map_key name k) ≡ is_quantity k
is_quantity-map_key name (Toks n) = refl
is_quantity-map_key name k = refl

begins_quantity-map_meaning : {M N T U : Type 0} (name : M → N) (token : T → U) (m : Meaning M T) →
    begins_quantity (map_meaning name token m) ≡ begins_quantity m
begins_quantity-map_meaning name token (meaning.Quantity k) = is_quantity-map_key name k
begins_quantity-map_meaning name token m = refl

quantity_of-map_meaning : {M N T U : Type 0} (name : M → N) (token : T → U) (m : Meaning M T) (h : Held) →
    quantity_of (map_meaning name token m) h ≡ quantity_of m h
quantity_of-map_meaning name token m held.Nothing = ap (λ b. if b then Unread else Plain) (begins_quantity-map_meaning name token m)
quantity_of-map_meaning name token m h = refl

-- a meaning by other names and tokens gives the same look
pub look_of-map_meaning : {M N T U : Type 0} (name : M → N) (token : T → U) (t : Token) (m : Meaning M T) (h : Held) →
    look_of t (map_meaning name token m) h ≡ look_of t m h
look_of-map_meaning name token (Char c category) m h = refl
look_of-map_meaning name token (Active c) m h = ap (Other (Some c)) (quantity_of-map_meaning name token m h)
look_of-map_meaning name token (Param n) m h = ap (Other None) (quantity_of-map_meaning name token m h)
look_of-map_meaning name token (Named text) m h = ap (Other (one_character text)) (quantity_of-map_meaning name token m h)
look_of-map_meaning name token Fixed m h = ap (Other None) (quantity_of-map_meaning name token m h)
