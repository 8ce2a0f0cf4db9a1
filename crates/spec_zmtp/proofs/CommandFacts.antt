-- Greetings and commands as they stand on the wire, computed from the definitions.
use Rattle.std.proofs.Common.{◌≡◌, [], ◌∷◌, ◌++◌, refl}
use Rattle.std.specs.Prelude.{replicate}
use Rattle.zq_base.specs.declared.kind.Kind.{Kind}
use Rattle.zq_base.specs.declared.kind.Kind.TheVariants.{Pull, Dealer}
use Rattle.zq_base.specs.declared.options.EngineOpts.{EngineOpts}
use Rattle.zq_base.specs.declared.options.Role.{Role}
use Rattle.zq_base.specs.declared.options.Role.TheVariants.{Null, PlainClient, PlainServer}
use Rattle.spec_zmtp.specs.declared.greeting.Judgement.TheVariants.{NeedMore, Good, BadSignature, OldVersion, OtherMechanism}
use Rattle.spec_zmtp.specs.Greeting.{greeting_of, judged}
use Rattle.spec_zmtp.specs.Metadata.{encode_command}
use Rattle.spec_zmtp.specs.OwnCommands.{our_ready, our_hello, our_welcome, our_error}

-- the options of a side without an identity
abbrev options : Role → Kind → EngineOpts
options role kind = record { kind = kind; id = []; role = role; logins = record { user = 117 ∷ []; pass = 120 ∷ [] } ∷ [] }

greeting_null : greeting_of Null ≡ 255 ∷ 0 ∷ 0 ∷ 0 ∷ 0 ∷ 0 ∷ 0 ∷ 0 ∷ 0 ∷ 127 ∷ 3 ∷ 0 ∷ 78 ∷ 85 ∷ 76 ∷ 76 ∷ replicate 48 0
greeting_null = refl

greeting_client : greeting_of PlainClient ≡ 255 ∷ 0 ∷ 0 ∷ 0 ∷ 0 ∷ 0 ∷ 0 ∷ 0 ∷ 0 ∷ 127 ∷ 3 ∷ 0 ∷ 80 ∷ 76 ∷ 65 ∷ 73 ∷ 78 ∷ replicate 47 0
greeting_client = refl

greeting_server : greeting_of PlainServer ≡ 255 ∷ 0 ∷ 0 ∷ 0 ∷ 0 ∷ 0 ∷ 0 ∷ 0 ∷ 0 ∷ 127 ∷ 3 ∷ 0 ∷ 80 ∷ 76 ∷ 65 ∷ 73 ∷ 78 ∷ (replicate 15 0 ++ 1 ∷ replicate 31 0)
greeting_server = refl

-- sides of one mechanism take each other's greeting
fitting : judged Null (greeting_of Null) ≡ Good
fitting = refl

fitting_client : judged PlainServer (greeting_of PlainClient) ≡ Good
fitting_client = refl

fitting_server : judged PlainClient (greeting_of PlainServer) ≡ Good
fitting_server = refl

other : judged Null (greeting_of PlainClient) ≡ OtherMechanism
other = refl

unsigned : judged Null (255 ∷ replicate 9 0) ≡ BadSignature 9
unsigned = refl

unsigned_yet : judged Null (255 ∷ replicate 8 0) ≡ NeedMore
unsigned_yet = refl

old : judged Null (255 ∷ (replicate 8 0 ++ 127 ∷ 2 ∷ [])) ≡ OldVersion 2
old = refl

ready_pull : encode_command (our_ready (options Null Pull)) ≡
    5 ∷ 82 ∷ 69 ∷ 65 ∷ 68 ∷ 89 ∷ 11 ∷ 83 ∷ 111 ∷ 99 ∷ 107 ∷ 101 ∷ 116 ∷ 45 ∷ 84 ∷ 121 ∷ 112 ∷ 101 ∷ 0 ∷ 0 ∷ 0 ∷ 4 ∷ 80 ∷ 85 ∷ 76 ∷ 76 ∷ []
ready_pull = refl

ready_dealer : encode_command (our_ready (options Null Dealer)) ≡
    5 ∷ 82 ∷ 69 ∷ 65 ∷ 68 ∷ 89 ∷ 11 ∷ 83 ∷ 111 ∷ 99 ∷ 107 ∷ 101 ∷ 116 ∷ 45 ∷ 84 ∷ 121 ∷ 112 ∷ 101 ∷ 0 ∷ 0 ∷ 0 ∷ 6 ∷ 68 ∷ 69 ∷ 65 ∷ 76 ∷ 69 ∷ 82
    ∷ 8 ∷ 73 ∷ 100 ∷ 101 ∷ 110 ∷ 116 ∷ 105 ∷ 116 ∷ 121 ∷ 0 ∷ 0 ∷ 0 ∷ 0 ∷ []
ready_dealer = refl

hello : encode_command (our_hello (options PlainClient Pull)) ≡ 5 ∷ 72 ∷ 69 ∷ 76 ∷ 76 ∷ 79 ∷ 1 ∷ 117 ∷ 1 ∷ 120 ∷ []
hello = refl

error : encode_command our_error ≡ 5 ∷ 69 ∷ 82 ∷ 82 ∷ 79 ∷ 82 ∷ 11 ∷ 78 ∷ 111 ∷ 116 ∷ 45 ∷ 119 ∷ 101 ∷ 108 ∷ 99 ∷ 111 ∷ 109 ∷ 101 ∷ []
error = refl

welcome : encode_command our_welcome ≡ 7 ∷ 87 ∷ 69 ∷ 76 ∷ 67 ∷ 79 ∷ 77 ∷ 69 ∷ []
welcome = refl
