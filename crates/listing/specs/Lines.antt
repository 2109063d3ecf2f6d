-- What the lines of a listing say.
use Rattle.std.specs.Prelude.{◌≡◌, ℕ, cond, List, [], ◌∷◌, length, None, Option, nat_le}
use Rattle.std.specs.Option.{option_map}
use Rattle.lines.specs.Buffer.{kept}
use Rattle.lines.specs.Fields.{fields}
use Rattle.lines.specs.Number.{number_of}
use Rattle.listing.specs.declared.parser.Entry.{Entry}

-- a key, given by its bytes, and the place under it; or none, where a line has another form
abbrev pub Parsed : Type 0
Parsed = Option (List ℕ × ℕ)

abbrev pub meaning : Option Entry → Parsed
meaning answer = option_map (λ e. (e.key.now, e.place)) answer

abbrev pub with_place : List ℕ → Option ℕ → Parsed
with_place key place = option_map (λ n. (key, n)) place

-- a line has two fields: the key, and the place as a number
abbrev pub by_fields : List (List ℕ) → Parsed
by_fields [] = None
by_fields (key ∷ []) = None
by_fields (key ∷ place ∷ []) = with_place key (number_of place)
by_fields (key ∷ place ∷ f ∷ fs) = None

unfoldable pub parsed : List ℕ → Parsed
parsed line = cond (nat_le (length line) 256) (by_fields (fields line)) None

-- the answer is what every line says of which these bytes are kept
abbrev pub StandsForLine : List ℕ → Option Entry → Type 0
StandsForLine bytes answer = (line : List ℕ) → kept line ≡ bytes → meaning answer ≡ parsed line
