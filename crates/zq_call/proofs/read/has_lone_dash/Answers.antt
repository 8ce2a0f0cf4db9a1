use Rattle.std.proofs.Common.{◌∙◌, sym, ap, map, string_bytes}
use Rattle.clap.proofs.WalkLemmas.{list_any-map}
use Rattle.zq_call.specs.Words.{has_lone_dash, is_dash}
use Rattle.zq_call.proofs.read.has_lone_dash.Goals as goal

pub returns-in-Some : goal.returns-in-Some
returns-in-Some c =
    c.has_dash.ensures ∙ list_any-map is_dash string_bytes c.in-Some.rest.now
    ∙ sym (ap (λ words. has_lone_dash (map string_bytes words)) c.in-Some.ensures.cases.0)
