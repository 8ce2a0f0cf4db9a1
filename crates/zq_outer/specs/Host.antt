-- What a host's answer says of the link that it gives (own choice).
use Rattle.std.specs.Prelude.{◌≡◌, ℕ, List, [], Option, IfSome}
use Rattle.zq_outer.specs.declared.host.Dialled.{Dialled}
use Rattle.zq_outer.specs.declared.host.Dialled.TheVariants as dial

-- where a link was given, this holds of it
abbrev pub IfLinked : {L : Type 0} → Dialled L → (L → Type 0) → Type 0
IfLinked (dial.Linked link) holds = holds link
IfLinked dial.NotReady holds = Unit {0}
IfLinked dial.Failed holds = Unit {0}

-- a link tells of no octets yet, neither read nor written
pub record IsNew (heard said : Option (List ℕ)) : Type 0 where
  pub unheard : IfSome heard (λ octets. octets ≡ [])
  pub unsaid : IfSome said (λ octets. octets ≡ [])
