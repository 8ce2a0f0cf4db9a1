-- The ends of a closed socket go over to the reaper: the halves that they come with, and how they are apart from others (own choice, after libzmq's `reaper_t`).
use Rattle.std.specs.Prelude.{◌≡◌, ◌≢◌, ◌++◌, ℕ, Bool, true, false, List, [], ◌∷◌, Option, Some, All}
use Rattle.zq_base.specs.declared.ids.EndId.{EndId}
use Rattle.msg_pipe.specs.Known.{Known, IsThere}
use Rattle.spec_control.specs.Control.{Control, owner_of}
use Rattle.spec_control.specs.Held.{Held}
use Rattle.desk.specs.declared.given.Given.{Given}
use Rattle.desk.specs.Holding.{Holding}

module _ {S O I N : Type 0} (K : Known S O I N) where
  -- an end comes with halves of these pipes, which are there: one that is said to have met its delimiter has met it, and a pipe that is not said to be sealed is not
  pub record IsGivenWith (pipes : S) (g : Given N O I) : Type 0 where
    pub read_there : IsThere K pipes (K.in_name g.input)
    pub met : g.met ≡ true → (K.reading pipes g.input).ended ≡ true
    pub out_is : (o : O) → g.out ≡ Some o → K.out_name o ≡ g.written
    pub written_there : (o : O) → g.out ≡ Some o → IsThere K pipes g.written
    pub unsealed : (o : O) → g.out ≡ Some o → g.sealed ≡ false → (K.writing pipes o).sealed ≡ false

  abbrev pub AreGivenWith : S → List (Given N O I) → Type 0
  AreGivenWith pipes gs = All (IsGivenWith pipes) gs

-- a holder may take over the first of these, however many they are, where they are of one socket
abbrev pub MayTakeFirst : {N O I : Type 0} → (may : ℕ → List (Given N O I) → Type 0) → Control → List (Given N O I) → Type 0
MayTakeFirst {N = N} {O = O} {I = I} may c gs = (o : ℕ) (ends rest : List (Given N O I)) → gs ≡ ends ++ rest → All (λ g. owner_of c g.end ≡ o) ends → may o ends

module _ {N : Type 0} where
  -- each pipe has a name of its own, wherever names tell pipes apart; a pipe is known by the end that writes it
  abbrev pub AreDistinct : (exact : Bool) → (named : EndId → Option N) → Type 0
  AreDistinct exact named = exact ≡ true → (d e : EndId) (n : N) → named d ≡ Some n → named e ≡ Some n → d ≡ e

  -- two ends are two, and wherever names tell pipes apart they write two pipes and read two
  pub record AreTwo (exact : Bool) (x y : Held N) : Type 0 where
    pub ends : x.end ≢ y.end
    pub written : exact ≡ true → x.written ≢ y.written
    pub read : exact ≡ true → x.read ≢ y.read

  -- so are any two of these
  abbrev pub AllTwo : (exact : Bool) → List (Held N) → Type 0
  AllTwo exact [] = Unit {0}
  AllTwo exact (x ∷ xs) = All (AreTwo exact x) xs × AllTwo exact xs

  -- ends that come are others than one another, and than those that a holder has of its objects
  pub record ComeApart (exact : Bool) (hs : List (Held N)) (h : Holding N) : Type 0 where
    pub each : AllTwo exact hs
    pub here : (i : ℕ) → h.holds i ≡ true → All (λ x. All (AreTwo exact x) hs) (h.ends i)
