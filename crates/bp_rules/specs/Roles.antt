-- Who may make which call.
use Rattle.std.specs.Prelude.{Bool, false, true}
use Rattle.bp_core.specs.declared.review.Role.{Role}
use Rattle.bp_core.specs.declared.review.Role.TheVariants.{Clerk, Lead, Receiver, Reviewer, Second}
use Rattle.bp_matter.specs.ValidStaff.{is_checker, is_lead}
use Rattle.bp_matter.specs.declared.calls.Call.{Call}
use Rattle.bp_matter.specs.declared.calls.Call.TheVariants.{AddStaff, Confirm, DropBox, Find, FreeField, Freeze, GetProduction, HoldField, Plan, PutBox, PutEntry, SeeDoc, SeePage, SeeProductions, SeeStaff, SeeStates, SeeValues, SeeWords, SendBack, SetCall}

-- all but a receiver see what the matter has
abbrev pub is_insider : Role → Bool
is_insider Receiver = false
is_insider _ = true

-- a reviewer decides, and so do a second and a lead
abbrev pub is_reviewer : Role → Bool
is_reviewer Reviewer = true
is_reviewer Second = true
is_reviewer Lead = true
is_reviewer _ = false

-- a clerk produces, and so does a lead
abbrev pub is_clerk : Role → Bool
is_clerk Clerk = true
is_clerk Lead = true
is_clerk _ = false

-- the roles of each call; a second and a lead check what others decided
abbrev pub may : Role → Call → Bool
may role (AddStaff _ _ _) = is_lead role
may role (SeeDoc _) = is_insider role
may role (SeePage _ _) = is_insider role
may role (SeeWords _ _) = is_insider role
may role (SetCall _ _ _ _) = is_reviewer role
may role (PutBox _ _ _ _ _) = is_reviewer role
may role (DropBox _ _) = is_reviewer role
may role (HoldField _ _ _) = is_reviewer role
may role (FreeField _ _) = is_reviewer role
may role (PutEntry _ _ _ _ _) = is_reviewer role
may role (Confirm _) = is_checker role
may role (SendBack _) = is_checker role
may role (Freeze _) = is_clerk role
may role (GetProduction _) = is_insider role
may role (SeeStates _) = is_insider role
may role (SeeValues _) = is_insider role
may role SeeStaff = is_insider role
may role SeeProductions = is_insider role
may role (Find _ _ _) = is_insider role
may role (Plan _) = is_insider role
