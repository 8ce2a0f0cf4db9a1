use Rattle.std.proofs.Common.{◌∙◌, ap, sym, true, false, ◌≡◌}
use Rattle.sub_table.proofs.told.Told.suspect_all.Goals as goal

clash : {P : Type 0} → true ≡ false → P
clash e = absurd (cc)

pub returns-in_err-add_to-clause-known : goal.returns-in_err-add_to-clause-known
returns-in_err-add_to-clause-known c = λ t found other. clash (sym c.requires ∙ ap (λ s. s.lost) (sym c.self.view_is) ∙ found)

pub returns-in_err-add_all-clause-known : goal.returns-in_err-add_all-clause-known
returns-in_err-add_all-clause-known c = λ t found other. clash (sym c.requires ∙ ap (λ s. s.lost) (sym c.self.view_is) ∙ found)
