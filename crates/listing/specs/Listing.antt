-- What a listing means.
use Rattle.std.specs.Prelude.{ℕ, List}
use Rattle.chains.specs.State.{StoreState}
use Rattle.keys.specs.declared.letters.LettersKey.{LettersKey}
use Rattle.ordered.specs.Store.{room_of, state as store_state}
use Rattle.listing.specs.declared.listing.Listing.{Listing}

abbrev pub state : Listing → StoreState LettersKey ℕ
state l = store_state l.store

-- the keys with places, rising, each with its places by rank
abbrev pub contents : Listing → List (LettersKey × List ℕ)
contents l = (state l).contents

-- the most places that it can hold
abbrev pub room : Listing → ℕ
room l = room_of l.store
