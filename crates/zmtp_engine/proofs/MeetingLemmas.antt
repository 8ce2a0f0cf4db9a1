-- Two sides that fit each other shake hands.
use Rattle.std.proofs.Common.{◌≡◌, ℕ, List, [], ◌∷◌, ◌++◌, Option, Some, refl, sym, ap, subst, ◌∙◌, append_assoc}
use Rattle.std.specs.Prelude.{IsSome, All, map}
use mathlib.Core.List.{IsPrefix}
use Rattle.std.proofs.lemmas.List.Concat.{flat_map-append}
use Rattle.std.proofs.lemmas.List.Elements.{All-nil, All-cons}
use Rattle.zq_base.specs.declared.options.EngineOpts.{EngineOpts}
use Rattle.zq_base.specs.declared.options.Peer.{Peer}
use Rattle.zq_base.specs.declared.options.Role.{Role}
use Rattle.zq_base.specs.declared.options.Role.TheVariants.{Null, PlainClient, PlainServer}
use Rattle.spec_zmtp.specs.declared.command.Command.{Command}
use Rattle.spec_zmtp.specs.declared.greeting.Judgement.TheVariants.{Good}
use Rattle.spec_zmtp.specs.Greeting.{greeting_of, judged}
use Rattle.spec_zmtp.specs.Handshake.{Item, Told, Handshake, handshake, handshake_as}
use Rattle.spec_zmtp.specs.Metadata.{encode_login}
use Rattle.spec_zmtp.specs.OwnCommands.{own_login, our_hello, our_welcome}
use Rattle.spec_zmtp.specs.Put.{encode_said, encode_commands}
use Rattle.spec_zmtp.specs.DecodedStream.{Decoded, Decodes, GoesOn, octets_said}
use Rattle.spec_zmtp.proofs.MoreLemmas.{more_means}
use Rattle.zmtp_mech.specs.Mechanism.{IsSayable}
use Rattle.zmtp_mech.proofs.SayableLemmas.{hello_sayable, welcome_sayable}
use Rattle.zmtp_engine.specs.Exchange.{RolesMeet, Fitting, as_told}
use Rattle.zmtp_engine.proofs.Exchanges.{decoded_at}
use Rattle.zmtp_engine.proofs.FittingLemmas.{NoneRefused, accepts, whole_said, peer_told, welcomed, greeted, handshake_said, spoken, spoken_means}
use Rattle.zmtp_engine.proofs.Meaning.{length-greeting_of}

-- what a side that says at least these commands means to another goes on where they end
hears_front : (role theirs : Role) (other : EngineOpts) (cs said : List Command) (e : Decoded) → other.role ≡ theirs → judged theirs (greeting_of role) ≡ Good → All IsSayable cs → NoneRefused theirs other [] cs
    → IsPrefix cs said → Decodes other (greeting_of role ++ encode_commands said) e → GoesOn (decoded_at other (handshake_as theirs other (map (λ (c : Command). Told c) cs)) []) e
hears_front role theirs other cs said e is good all fine front decodes =
    let items : List Item = map (λ (c : Command). Told c) cs in
    let greeting : List ℕ = greeting_of role in
    let good' : judged other.role greeting ≡ Good = ap (λ (r : Role). judged r greeting) is ∙ good in
    let fine' : NoneRefused other.role other [] cs = subst (λ (r : Role). NoneRefused r other [] cs) (sym is) fine in
    let means : Decodes other (greeting ++ encode_commands cs) (decoded_at other (handshake other items) []) =
    spoken_means other (greeting ++ encode_commands cs) items (spoken other greeting cs (length-greeting_of role) good' all fine') in
    let split : greeting ++ encode_commands said ≡ (greeting ++ encode_commands cs) ++ encode_commands front.0 =
    ap (λ (l : List Command). greeting ++ encode_commands l) (sym front.1) ∙ ap (λ (l : List ℕ). greeting ++ l) (flat_map-append encode_said cs front.0) ∙ sym (append_assoc greeting (encode_commands cs) (encode_commands front.0)) in
    subst (λ (r : Role). GoesOn (decoded_at other (handshake_as r other items) []) e) is
    (more_means other (greeting ++ encode_commands cs) (encode_commands front.0) (decoded_at other (handshake other items) []) e means (subst (λ (l : List ℕ). Decodes other l e) split decodes))

-- what a side of this role makes of these commands
abbrev shaken_by : Role → EngineOpts → List Command → Handshake
shaken_by role other cs = handshake_as role other (map (λ (c : Command). Told c) cs)

-- a peer that is known in a front is known
known_on : (h : Handshake) (opts : EngineOpts) (e : Decoded) (peer : Peer) → GoesOn (decoded_at opts h []) e → h.peer ≡ Some peer → e.peer ≡ Some peer
known_on h opts e peer g is = (g.known (subst (λ (o : Option Peer). IsSome o) (sym is) refl)).0 ∙ is

some_known : (p : Option Peer) (q : Peer) → p ≡ Some q → IsSome p
some_known p q e = subst (λ (o : Option Peer). IsSome o) (sym e) refl

front_as : (xs ys zs : List Command) → xs ≡ ys → IsPrefix xs zs → IsPrefix ys zs
front_as xs ys zs e p = subst (λ (l : List Command). IsPrefix l zs) e p

-- ---- by their roles

abbrev Meet : EngineOpts → EngineOpts → Decoded → Decoded → Type 0
Meet opts other d e = (d.peer ≡ Some (as_told other)) × (e.peer ≡ Some (as_told opts))

-- what both sides have heard
record Hear (role theirs : Role) (opts other : EngineOpts) (d e : Decoded) : Type 0 where
  ours : opts.role ≡ role
  them : other.role ≡ theirs
  fits : Fitting opts other
  fits_back : Fitting other opts
  heard : Decodes opts (greeting_of theirs ++ encode_commands e.said) d
  heard_back : Decodes other (greeting_of role ++ encode_commands d.said) e

null_meet : (opts other : EngineOpts) (d e : Decoded) → Hear Null Null opts other d e → Meet opts other d e
null_meet opts other d e h =
    let a = accepts Null Null opts other h.fits.ours tt (peer_told other.kind opts h.fits.ours h.fits.kinds) in
    let b = accepts Null Null other opts h.fits_back.ours tt (peer_told opts.kind other h.fits_back.ours h.fits_back.kinds) in
    let d0 = hears_front Null Null opts [] e.said d h.ours refl (All-nil IsSayable) tt (e.said, refl) h.heard in
    let e0 = hears_front Null Null other [] d.said e h.them refl (All-nil IsSayable) tt (d.said, refl) h.heard_back in
    let d1 = hears_front Null Null opts (whole_said Null other) e.said d h.ours refl b.sayable b.unrefused e0.said h.heard in
    let e1 = hears_front Null Null other (whole_said Null opts) d.said e h.them refl a.sayable a.unrefused d0.said h.heard_back in
    (known_on (shaken_by Null opts (whole_said Null other)) opts d (as_told other) d1 b.known, known_on (shaken_by Null other (whole_said Null opts)) other e (as_told opts) e1 a.known)

plain_meet : (opts other : EngineOpts) (d e : Decoded) → RolesMeet PlainClient PlainServer opts other → Hear PlainClient PlainServer opts other d e → Meet opts other d e
plain_meet opts other d e meet h =
    let a = accepts PlainClient PlainServer opts other h.fits.ours meet (peer_told other.kind opts h.fits.ours h.fits.kinds) in
    let b = accepts PlainServer PlainClient other opts h.fits_back.ours tt (peer_told opts.kind other h.fits_back.ours h.fits_back.kinds) in
    let hello : All IsSayable (our_hello opts ∷ []) = All-cons IsSayable (our_hello opts) [] (hello_sayable opts h.fits.ours) (All-nil IsSayable) in
    let welcome : All IsSayable (our_welcome ∷ []) = All-cons IsSayable our_welcome [] welcome_sayable (All-nil IsSayable) in
    let d0 = hears_front PlainServer PlainClient opts [] e.said d h.ours refl (All-nil IsSayable) tt (e.said, refl) h.heard in
    let e1 = hears_front PlainClient PlainServer other (our_hello opts ∷ []) d.said e h.them refl hello (a.unrefused.0, tt) d0.said h.heard_back in
    let said1 : IsPrefix (our_welcome ∷ []) e.said =
    front_as _ (our_welcome ∷ []) e.said (ap (λ (x : Handshake). x.said) (greeted other (encode_login (own_login opts.logins)) [] meet)) e1.said in
    let d2 = hears_front PlainServer PlainClient opts (our_welcome ∷ []) e.said d h.ours refl welcome (b.unrefused.0, tt) said1 h.heard in
    let said2 : IsPrefix (whole_said PlainClient opts) d.said =
    front_as _ (whole_said PlainClient opts) d.said (ap (λ (x : Handshake). our_hello opts ∷ x.said) (welcomed opts [])) d2.said in
    let e3 = hears_front PlainClient PlainServer other (whole_said PlainClient opts) d.said e h.them refl a.sayable a.unrefused said2 h.heard_back in
    let said3 : IsPrefix (whole_said PlainServer other) e.said =
    front_as (shaken_by PlainServer other (whole_said PlainClient opts)).said (whole_said PlainServer other) e.said (handshake_said PlainServer other (map (λ (c : Command). Told c) (whole_said PlainClient opts)) (some_known (shaken_by PlainServer other (whole_said PlainClient opts)).peer (as_told opts) a.known)) e3.said in
    let d4 = hears_front PlainServer PlainClient opts (whole_said PlainServer other) e.said d h.ours refl b.sayable b.unrefused said3 h.heard in
    (known_on (shaken_by PlainClient opts (whole_said PlainServer other)) opts d (as_told other) d4 b.known, known_on (shaken_by PlainServer other (whole_said PlainClient opts)) other e (as_told opts) e3 a.known)

by_roles : (role theirs : Role) (opts other : EngineOpts) (d e : Decoded) → RolesMeet role theirs opts other → RolesMeet theirs role other opts → Hear role theirs opts other d e → Meet opts other d e
by_roles Null Null opts other d e meet back h = null_meet opts other d e h
by_roles Null PlainClient opts other d e meet back h = absurd meet
by_roles Null PlainServer opts other d e meet back h = absurd meet
by_roles PlainClient Null opts other d e meet back h = absurd meet
by_roles PlainClient PlainClient opts other d e meet back h = absurd meet
by_roles PlainClient PlainServer opts other d e meet back h = plain_meet opts other d e meet h
by_roles PlainServer Null opts other d e meet back h = absurd meet
by_roles PlainServer PlainClient opts other d e meet back h =
    let m = plain_meet other opts e d back (record { ours = h.them; them = h.ours; fits = h.fits_back; fits_back = h.fits; heard = h.heard_back; heard_back = h.heard }) in
    (m.1, m.0)
by_roles PlainServer PlainServer opts other d e meet back h = absurd meet

pub meets : (opts other : EngineOpts) (x y : List ℕ) (d e : Decoded) → Fitting opts other → Fitting other opts → Decodes opts x d → Decodes other y e → x ≡ octets_said other e → y ≡ octets_said opts d
    → (d.peer ≡ Some (as_told other)) × (e.peer ≡ Some (as_told opts))
meets opts other x y d e f g h k p q =
    by_roles opts.role other.role opts other d e f.roles g.roles
    (record { ours = refl; them = refl; fits = f; fits_back = g; heard = subst (λ (l : List ℕ). Decodes opts l d) p h; heard_back = subst (λ (l : List ℕ). Decodes other l e) q k })
