use Rattle.bp_codes.specs.CodeLists.{white_codes}
use Rattle.std.proofs.Common.{refl}
use Rattle.bp_codes.proofs.RowLemmas.{◌◂◌, white_table, white_shown}
use Rattle.bp_codes.proofs.tables.white.Goals as goal

pub invariant_of-result : goal.invariant_of-result
unfolding white_codes
invariant_of-result c =
    white_table _ (
    c.printed.ensures ◂ c.printed-2.ensures ◂ c.printed-3.ensures ◂ c.printed-4.ensures ◂
    c.printed-5.ensures ◂ c.printed-6.ensures ◂ c.printed-7.ensures ◂ c.printed-8.ensures ◂
    c.printed-9.ensures ◂ c.printed-10.ensures ◂ c.printed-11.ensures ◂ c.printed-12.ensures ◂
    c.printed-13.ensures ◂ c.printed-14.ensures ◂ c.printed-15.ensures ◂ c.printed-16.ensures ◂
    c.printed-17.ensures ◂ c.printed-18.ensures ◂ c.printed-19.ensures ◂ c.printed-20.ensures ◂
    c.printed-21.ensures ◂ c.printed-22.ensures ◂ c.printed-23.ensures ◂ c.printed-24.ensures ◂
    c.printed-25.ensures ◂ c.printed-26.ensures ◂ c.printed-27.ensures ◂ c.printed-28.ensures ◂
    c.printed-29.ensures ◂ c.printed-30.ensures ◂ c.printed-31.ensures ◂ c.printed-32.ensures ◂
    c.printed-33.ensures ◂ c.printed-34.ensures ◂ c.printed-35.ensures ◂ c.printed-36.ensures ◂
    c.printed-37.ensures ◂ c.printed-38.ensures ◂ c.printed-39.ensures ◂ c.printed-40.ensures ◂
    c.printed-41.ensures ◂ c.printed-42.ensures ◂ c.printed-43.ensures ◂ c.printed-44.ensures ◂
    c.printed-45.ensures ◂ c.printed-46.ensures ◂ c.printed-47.ensures ◂ c.printed-48.ensures ◂
    c.printed-49.ensures ◂ c.printed-50.ensures ◂ c.printed-51.ensures ◂ c.printed-52.ensures ◂
    c.printed-53.ensures ◂ c.printed-54.ensures ◂ c.printed-55.ensures ◂ c.printed-56.ensures ◂
    c.printed-57.ensures ◂ c.printed-58.ensures ◂ c.printed-59.ensures ◂ c.printed-60.ensures ◂
    c.printed-61.ensures ◂ c.printed-62.ensures ◂ c.printed-63.ensures ◂ c.printed-64.ensures ◂
    c.printed-65.ensures ◂ c.printed-66.ensures ◂ c.printed-67.ensures ◂ c.printed-68.ensures ◂
    c.printed-69.ensures ◂ c.printed-70.ensures ◂ c.printed-71.ensures ◂ c.printed-72.ensures ◂
    c.printed-73.ensures ◂ c.printed-74.ensures ◂ c.printed-75.ensures ◂ c.printed-76.ensures ◂
    c.printed-77.ensures ◂ c.printed-78.ensures ◂ c.printed-79.ensures ◂ c.printed-80.ensures ◂
    c.printed-81.ensures ◂ c.printed-82.ensures ◂ c.printed-83.ensures ◂ c.printed-84.ensures ◂
    c.printed-85.ensures ◂ c.printed-86.ensures ◂ c.printed-87.ensures ◂ c.printed-88.ensures ◂
    c.printed-89.ensures ◂ c.printed-90.ensures ◂ c.printed-91.ensures ◂ c.printed-92.ensures ◂
    c.printed-93.ensures ◂ c.printed-94.ensures ◂ c.printed-95.ensures ◂ c.printed-96.ensures ◂
    c.printed-97.ensures ◂ c.printed-98.ensures ◂ c.printed-99.ensures ◂ c.printed-100.ensures ◂
    c.printed-101.ensures ◂ c.printed-102.ensures ◂ c.printed-103.ensures ◂ c.printed-104.ensures ◂ refl)

pub returns : goal.returns
unfolding white_codes
returns c =
    white_shown _ (
    c.printed.ensures ◂ c.printed-2.ensures ◂ c.printed-3.ensures ◂ c.printed-4.ensures ◂
    c.printed-5.ensures ◂ c.printed-6.ensures ◂ c.printed-7.ensures ◂ c.printed-8.ensures ◂
    c.printed-9.ensures ◂ c.printed-10.ensures ◂ c.printed-11.ensures ◂ c.printed-12.ensures ◂
    c.printed-13.ensures ◂ c.printed-14.ensures ◂ c.printed-15.ensures ◂ c.printed-16.ensures ◂
    c.printed-17.ensures ◂ c.printed-18.ensures ◂ c.printed-19.ensures ◂ c.printed-20.ensures ◂
    c.printed-21.ensures ◂ c.printed-22.ensures ◂ c.printed-23.ensures ◂ c.printed-24.ensures ◂
    c.printed-25.ensures ◂ c.printed-26.ensures ◂ c.printed-27.ensures ◂ c.printed-28.ensures ◂
    c.printed-29.ensures ◂ c.printed-30.ensures ◂ c.printed-31.ensures ◂ c.printed-32.ensures ◂
    c.printed-33.ensures ◂ c.printed-34.ensures ◂ c.printed-35.ensures ◂ c.printed-36.ensures ◂
    c.printed-37.ensures ◂ c.printed-38.ensures ◂ c.printed-39.ensures ◂ c.printed-40.ensures ◂
    c.printed-41.ensures ◂ c.printed-42.ensures ◂ c.printed-43.ensures ◂ c.printed-44.ensures ◂
    c.printed-45.ensures ◂ c.printed-46.ensures ◂ c.printed-47.ensures ◂ c.printed-48.ensures ◂
    c.printed-49.ensures ◂ c.printed-50.ensures ◂ c.printed-51.ensures ◂ c.printed-52.ensures ◂
    c.printed-53.ensures ◂ c.printed-54.ensures ◂ c.printed-55.ensures ◂ c.printed-56.ensures ◂
    c.printed-57.ensures ◂ c.printed-58.ensures ◂ c.printed-59.ensures ◂ c.printed-60.ensures ◂
    c.printed-61.ensures ◂ c.printed-62.ensures ◂ c.printed-63.ensures ◂ c.printed-64.ensures ◂
    c.printed-65.ensures ◂ c.printed-66.ensures ◂ c.printed-67.ensures ◂ c.printed-68.ensures ◂
    c.printed-69.ensures ◂ c.printed-70.ensures ◂ c.printed-71.ensures ◂ c.printed-72.ensures ◂
    c.printed-73.ensures ◂ c.printed-74.ensures ◂ c.printed-75.ensures ◂ c.printed-76.ensures ◂
    c.printed-77.ensures ◂ c.printed-78.ensures ◂ c.printed-79.ensures ◂ c.printed-80.ensures ◂
    c.printed-81.ensures ◂ c.printed-82.ensures ◂ c.printed-83.ensures ◂ c.printed-84.ensures ◂
    c.printed-85.ensures ◂ c.printed-86.ensures ◂ c.printed-87.ensures ◂ c.printed-88.ensures ◂
    c.printed-89.ensures ◂ c.printed-90.ensures ◂ c.printed-91.ensures ◂ c.printed-92.ensures ◂
    c.printed-93.ensures ◂ c.printed-94.ensures ◂ c.printed-95.ensures ◂ c.printed-96.ensures ◂
    c.printed-97.ensures ◂ c.printed-98.ensures ◂ c.printed-99.ensures ◂ c.printed-100.ensures ◂
    c.printed-101.ensures ◂ c.printed-102.ensures ◂ c.printed-103.ensures ◂ c.printed-104.ensures ◂ refl)
