-- What was read from a link and written to it, where it tells that (own choice).
use Rattle.std.specs.Prelude.{◌≡◌, ◌≤◌, ℕ, List, ◌++◌, take, Option, Some, None}
use Rattle.zq_outer.specs.declared.link.LinkGot.{LinkGot}
use Rattle.zq_outer.specs.declared.link.LinkGot.TheVariants as got
use Rattle.zq_outer.specs.declared.link.LinkPut.{LinkPut}
use Rattle.zq_outer.specs.declared.link.LinkPut.TheVariants as put

-- a read gives one octet at least, and no more than there is room for
abbrev pub IsHeard : LinkGot → ℕ → Type 0
IsHeard (got.Bytes n) room = (1 ≤ n) × (n ≤ room)
IsHeard got.NotReady room = Unit {0}
IsHeard got.Ended room = Unit {0}
IsHeard got.Failed room = Unit {0}

-- a write takes one octet at least, and no more than the piece has
abbrev pub IsSaid : LinkPut → ℕ → Type 0
IsSaid (put.Took n) len = (1 ≤ n) × (n ≤ len)
IsSaid put.NotReady len = Unit {0}
IsSaid put.Ended len = Unit {0}
IsSaid put.Failed len = Unit {0}

-- one read: the octets given are added to all that was read
abbrev pub Hears : Option (List ℕ) → Option (List ℕ) → LinkGot → List ℕ → Type 0
Hears None new answer buf = new ≡ None
Hears (Some heard) new (got.Bytes n) buf = new ≡ Some (heard ++ take n buf)
Hears (Some heard) new got.NotReady buf = new ≡ Some heard
Hears (Some heard) new got.Ended buf = new ≡ Some heard
Hears (Some heard) new got.Failed buf = new ≡ Some heard

-- one write: the octets taken are added to all that was written
abbrev pub Says : Option (List ℕ) → Option (List ℕ) → LinkPut → List ℕ → Type 0
Says None new answer piece = new ≡ None
Says (Some said) new (put.Took n) piece = new ≡ Some (said ++ take n piece)
Says (Some said) new put.NotReady piece = new ≡ Some said
Says (Some said) new put.Ended piece = new ≡ Some said
Says (Some said) new put.Failed piece = new ≡ Some said
