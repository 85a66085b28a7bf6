-- Why a device can't be started.
use Rattle.disk_images.specs.declared.disk.NamesError.{NamesError}
use Rattle.disk_images.specs.declared.disk.NamesError.TheVariants as names_errors
use Rattle.file_base.specs.declared.error.FileRefusal.{FileRefusal}
use Rattle.file_base.specs.declared.error.FileRefusal.TheVariants as file_refusals
use Rattle.log_device.specs.declared.error.DeviceWhy.{DeviceWhy}
use Rattle.log_device.specs.declared.error.DeviceWhy.TheVariants as whys

-- as the names, or the first log file, were refused
abbrev pub why_of_names : NamesError → DeviceWhy
why_of_names names_errors.Failed = whys.DiskFault
why_of_names names_errors.Memory = whys.Memory

abbrev pub why_of_file : FileRefusal → DeviceWhy
why_of_file file_refusals.Memory = whys.Memory
why_of_file file_refusals.DiskFault = whys.DiskFault
