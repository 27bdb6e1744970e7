use Rattle.std.proofs.Common.{◌≡◌, ◌∙◌, refl, ap, None, Ok, Err, Result, IsTrue, string_bytes}
use Rattle.outer_ports.specs.Folders.{files_in_folder}
use Rattle.outer_ports.proofs.{Faults.err_is, Folders.no_file, OpenKinds.some_is_none}
use Rattle.outer_ports.proofs.folder.Folder.read_at.Goals as goal

pub returns-then-place-gt-MOST_PLACE : goal.returns-then-place-gt-MOST_PLACE
returns-then-place-gt-MOST_PLACE g c = record { path = refl; within = tt; told = λ t. t; stays = λ _. refl; read = λ _. record { none = tt; some = λ _ _. tt }; counted = λ _ _. refl }

same_fault : {T U E : Type 0} (r : Result T E) (s : Result U E) (a b : E) → r ≡ Err a → s ≡ Err a → r ≡ Err b → s ≡ Err b
same_fault r s a b one other is = let same : a ≡ b = cc in other ∙ ap (λ e. Err e) same

pub returns-in_err-start_reading : goal.returns-in_err-start_reading
returns-in_err-start_reading g c = let start = c.start_reading.ensures in
    rw (err_is _ _ c.from_residual.ensures.1) (record { path = start.path; within = tt; told = start.told; stays = start.stays; read = λ _. record { none = tt; some = λ _ _. tt }; counted = λ t other. start.counted t (λ is. other (same_fault c.start_reading.result _ _ _ c.in_err-start_reading.was refl is)) })

pub returns-then-not-branch : goal.returns-then-not-branch
returns-then-not-branch g c = let start = c.in_ok-start_reading.ensures in let C = g.C.FileCalls in
    let none : IsTrue (C.tells c.start_reading.new.self.calls) → files_in_folder (C.disk c.args.self.now.calls) (string_bytes c.args.self.now.path) c.args.name ≡ None = λ t. no_file (C.disk c.args.self.now.calls) (string_bytes c.args.self.now.path) c.args.name (start.missing t (ap (λ b. Ok b) c.if-not-branch.true)) in
    record { path = start.path; within = tt; told = start.told; stays = start.stays; read = λ t. record { none = (λ _. none t, λ _. refl); some = λ bytes has. absurd (some_is_none _ bytes (none t) has) }; counted = λ t _. start.counted t (λ e. absurd (cc)) }
